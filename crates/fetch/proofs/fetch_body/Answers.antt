-- `fetch_body`: an empty part where the fetch declines. Assumes nothing.
use mathlib.Core.Path.{sym}
use Rattle.words.specs.Refusal.{number_of}
use Rattle.words.proofs.Refusals.{number-some}
use Rattle.fetch.proofs.Fetch.{body-empty}
use Rattle.fetch.proofs.fetch_body.Goals as goal

pub returns-in-Err : goal.returns-in-Err
returns-in-Err c =
    let e = c.in-Err.field-0 in
    sym (body-empty c.args.bytes.now c.args.holder c.args.place (number_of e) (number-some e) (sym c.in-Err.ensures.fault))
