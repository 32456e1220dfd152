-- `put_number`: the lowest bytes, in their place. Assumes nothing.
use Rattle.writer.proofs.Put.{number_put}
use Rattle.writer.proofs.put_number.Goals as goal

pub returns : goal.returns
returns c =
    let a = c.args in
    number_put a.at a.w a.x a.out.now c.to_le_bytes.result c.copy_from_slice.new.self c.requires.0 c.copy_from_slice.ensures.after c.to_le_bytes.ensures
