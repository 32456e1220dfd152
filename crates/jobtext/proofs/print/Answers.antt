use Rattle.std.proofs.Common.{◌≡◌, ◌<◌, rules, arith, take, ap, ◌∙◌, subst}
use Rattle.std.specs.Io.KnownBytes.{Appends}
use Rattle.decimal.proofs.Written.{take-written}
use Rattle.streams.specs.Moved.{AppendsStart}
use Rattle.streams.proofs.Moved.{start-whole}
use Rattle.exporting.specs.Export.{export_of, export_piece, export_pieces}
use Rattle.jobtext.proofs.Pieces.{pieces-mapped, exported-none, exported-next, exported-start, exported-all}
use Rattle.jobtext.proofs.print.Given.{Over}
use Rattle.jobtext.proofs.print.Goals as goal
use Rattle.jobtext.proofs.print.Goals.{After-count_pieces-pieces}

-- as many pieces are written as there are
counted : (g : Over) (c : After-count_pieces-pieces g) → c.count_pieces-pieces.result ≡ export_pieces c.args.bytes.now
counted g c =
    pieces-mapped c.args.bytes.now c.accept-accepted.result c.accept-accepted.ensures _ (λ b h p. search rules) c.map.result c.map.ensures.cases c.count_pieces-pieces.result
    c.count_pieces-pieces.ensures

pub loop-i-init : goal.loop-i-init
loop-i-init g c = exported-none c.args.bytes.now _

pub put_piece-size-requires : goal.put_piece-size-requires
put_piece-size-requires g c =
    let bs = c.args.bytes.now in
    let n : c.count_pieces-pieces.result ≡ export_pieces bs = counted g (goal.at.put_piece-size-requires g c).After-count_pieces-pieces in
    (c.accept-accepted.ensures, omega (arith, n), search rules)

pub returns-in_err-write_text-clause-start : goal.returns-in_err-write_text-clause-start
returns-in_err-write_text-clause-start g c =
    let bs = c.args.bytes.now in
    let n : c.count_pieces-pieces.result ≡ export_pieces bs = counted g (goal.at.returns-in_err-write_text-clause-start g c).After-count_pieces-pieces in
    let h : c.loop-i.i < export_pieces bs = omega (arith, n) in
    let p = c.put_piece-size in
    let e : take p.result p.new.out ≡ export_piece bs c.loop-i.i =
    ap (take p.result) p.ensures.0 ∙ take-written c.loop-i.text (export_piece bs c.loop-i.i) p.result p.ensures.1 in
    exported-start bs _ _ _ c.loop-i.i c.loop-i.invariant h (subst (AppendsStart _ _) e c.write_text.ensures.start)

pub loop-i-preserved : goal.loop-i-preserved
loop-i-preserved g c =
    let bs = c.args.bytes.now in
    let p = c.put_piece-size in
    let e : take p.result p.new.out ≡ export_piece bs c.loop-i.i =
    ap (take p.result) p.ensures.0 ∙ take-written c.loop-i.text (export_piece bs c.loop-i.i) p.result p.ensures.1 in
    exported-next bs _ _ _ c.loop-i.i c.loop-i.invariant (subst (Appends _ _) e c.in_ok-write_text.ensures.all)

pub returns-clause-start : goal.returns-clause-start
returns-clause-start g c =
    let bs = c.args.bytes.now in
    let n : c.count_pieces-pieces.result ≡ export_pieces bs = counted g (goal.at.returns-clause-start g c).After-count_pieces-pieces in
    let h : c.loop-i.i ≡ export_pieces bs = omega (arith, n) in
    start-whole _ _ (export_of bs) (exported-all bs _ _ c.loop-i.i c.loop-i.invariant h)

pub returns-clause-all : goal.returns-clause-all
returns-clause-all g c =
    let bs = c.args.bytes.now in
    let n : c.count_pieces-pieces.result ≡ export_pieces bs = counted g (goal.at.returns-clause-all g c).After-count_pieces-pieces in
    let h : c.loop-i.i ≡ export_pieces bs = omega (arith, n) in
    exported-all bs _ _ c.loop-i.i c.loop-i.invariant h
