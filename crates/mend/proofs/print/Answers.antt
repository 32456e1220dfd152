use Rattle.std.proofs.Common.{◌≡◌, ◌<◌, rules, arith, take, ap, ◌∙◌, subst}
use Rattle.std.specs.Io.KnownBytes.{Appends}
use Rattle.decimal.proofs.Written.{take-written}
use Rattle.streams.specs.Moved.{AppendsStart}
use Rattle.streams.proofs.Moved.{start-whole}
use Rattle.mending.specs.Progress.{output_at}
use Rattle.mending.specs.Report.{report_of, report_piece, report_pieces}
use Rattle.mend.proofs.Pieces.{pieces-mapped, reported-none, reported-next, reported-start, reported-all}
use Rattle.mend.proofs.print.Given.{Over}
use Rattle.mend.proofs.print.Goals as goal
use Rattle.mend.proofs.print.Goals.{After-count_pieces-pieces}

-- as many pieces are written as there are
counted : (g : Over) (c : After-count_pieces-pieces g) → c.count_pieces-pieces.result ≡ report_pieces c.args.bytes.now
counted g c =
    pieces-mapped c.args.bytes.now c.args.accepted.now c.requires.0 _ (λ b h p. search rules) c.map.result c.map.ensures.cases c.count_pieces-pieces.result
    c.count_pieces-pieces.ensures

pub loop-i-init : goal.loop-i-init
loop-i-init g c = record { mended = c.requires.1; given = reported-none c.args.bytes.now _ }

pub put_piece-size-requires : goal.put_piece-size-requires
put_piece-size-requires g c =
    let bs = c.args.bytes.now in
    let n : c.count_pieces-pieces.result ≡ report_pieces bs = counted g (goal.at.put_piece-size-requires g c).After-count_pieces-pieces in
    (c.requires.0, omega (arith, n), c.loop-i.invariant.mended, search rules)

pub returns-in_err-write_text-clause-start : goal.returns-in_err-write_text-clause-start
returns-in_err-write_text-clause-start g c =
    let bs = c.args.bytes.now in
    let n : c.count_pieces-pieces.result ≡ report_pieces bs = counted g (goal.at.returns-in_err-write_text-clause-start g c).After-count_pieces-pieces in
    let h : c.loop-i.i < report_pieces bs = omega (arith, n) in
    let p = c.put_piece-size in
    let e : take p.result p.new.text ≡ report_piece bs c.loop-i.i =
    ap (take p.result) p.ensures.text.0 ∙ take-written c.loop-i.text (report_piece bs c.loop-i.i) p.result p.ensures.text.1 in
    reported-start bs _ _ _ c.loop-i.i c.loop-i.invariant.given h (subst (AppendsStart _ _) e c.write_text.ensures.start)

pub loop-i-preserved : goal.loop-i-preserved
loop-i-preserved g c =
    let bs = c.args.bytes.now in
    let p = c.put_piece-size in
    let e : take p.result p.new.text ≡ report_piece bs c.loop-i.i =
    ap (take p.result) p.ensures.text.0 ∙ take-written c.loop-i.text (report_piece bs c.loop-i.i) p.result p.ensures.text.1 in record {
      mended = p.ensures.out;
      given = reported-next bs _ _ _ c.loop-i.i c.loop-i.invariant.given (subst (Appends _ _) e c.in_ok-write_text.ensures.all);
    }

pub returns-clause-mended : goal.returns-clause-mended
returns-clause-mended g c =
    let bs = c.args.bytes.now in
    let n : c.count_pieces-pieces.result ≡ report_pieces bs = counted g (goal.at.returns-clause-mended g c).After-count_pieces-pieces in
    let h : c.loop-i.i ≡ report_pieces bs = omega (arith, n) in
    c.loop-i.invariant.mended ∙ ap (output_at bs) h

pub returns-clause-start : goal.returns-clause-start
returns-clause-start g c =
    let bs = c.args.bytes.now in
    let n : c.count_pieces-pieces.result ≡ report_pieces bs = counted g (goal.at.returns-clause-start g c).After-count_pieces-pieces in
    let h : c.loop-i.i ≡ report_pieces bs = omega (arith, n) in
    start-whole _ _ (report_of bs) (reported-all bs _ _ c.loop-i.i c.loop-i.invariant.given h)

pub returns-clause-all : goal.returns-clause-all
returns-clause-all g c =
    let bs = c.args.bytes.now in
    let n : c.count_pieces-pieces.result ≡ report_pieces bs = counted g (goal.at.returns-clause-all g c).After-count_pieces-pieces in
    let h : c.loop-i.i ≡ report_pieces bs = omega (arith, n) in
    reported-all bs _ _ c.loop-i.i c.loop-i.invariant.given h
