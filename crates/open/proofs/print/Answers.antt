use Rattle.std.proofs.Common.{◌≡◌, ◌<◌, ◌≤◌, take, ap, ◌∙◌, subst}
use Rattle.std.specs.Io.KnownBytes.{Appends}
use Rattle.decimal.proofs.Written.{take-written}
use Rattle.streams.specs.Moved.{AppendsStart}
use Rattle.streams.proofs.Moved.{start-whole}
use Rattle.listing.specs.Pieces.{piece, pieces_in}
use Rattle.listing.specs.Listing.{listing_of}
use Rattle.open.proofs.Pieces.{listed-none, listed-next, listed-start, listed-all}
use Rattle.open.proofs.print.Given.{Over}
use Rattle.open.proofs.print.Goals as goal
use Rattle.open.proofs.print.Goals.{After-write_text, In_default}

pub loop-size-init : goal.loop-size-init
loop-size-init g c =
    let p = c.start-printer in
    record { own = p.ensures.0; given = listed-none c.args.bytes.now _ p.result.next p.ensures.1 }

-- the piece that is printed
printed : (g : Over) (c : After-write_text g) →
    take c.in-Some.size c.next.new.line ≡ piece c.args.bytes.now c.loop-size.printer.next
printed g c =
    let p = c.loop-size.printer in
    ap (take c.in-Some.size) c.next.ensures.line
    ∙ take-written c.loop-size.line (piece p.bytes.now p.next) c.in-Some.size c.in-Some.ensures.size.0
    ∙ ap (λ bs. piece bs p.next) c.loop-size.invariant.own

pub returns-in_err-write_text-clause-start : goal.returns-in_err-write_text-clause-start
returns-in_err-write_text-clause-start g c =
    let bs = c.args.bytes.now in
    let i = c.loop-size.printer.next in
    let h : i < pieces_in bs = rw c.loop-size.invariant.own at c.in-Some.ensures.size.2 in
    listed-start bs _ _ _ i c.loop-size.invariant.given h
    (subst (AppendsStart _ _) (printed g (goal.at.returns-in_err-write_text-clause-start g c).After-write_text) c.write_text.ensures.start)

pub loop-size-preserved : goal.loop-size-preserved
loop-size-preserved g c = record {
  own = c.next.ensures.bytes ∙ c.loop-size.invariant.own;
  given = listed-next c.args.bytes.now _ _ _ c.loop-size.printer.next c.loop-size.invariant.given c.next.new.self.next c.in-Some.ensures.size.3
      (subst (Appends _ _) (printed g (goal.at.loop-size-preserved g c).After-write_text) c.in_ok-write_text.ensures.all);
}

-- at the end all pieces were
ended : (g : Over) (c : In_default g) → pieces_in c.args.bytes.now ≤ c.loop-size.printer.next
ended g c = rw c.loop-size.invariant.own at c.in_default.ensures.size.0

pub returns-clause-start : goal.returns-clause-start
returns-clause-start g c =
    let bs = c.args.bytes.now in
    start-whole _ _ (listing_of bs) (listed-all bs _ _ c.loop-size.printer.next c.loop-size.invariant.given (ended g (goal.at.returns-clause-start g c).In_default))

pub returns-clause-all : goal.returns-clause-all
returns-clause-all g c =
    listed-all c.args.bytes.now _ _ c.loop-size.printer.next c.loop-size.invariant.given (ended g (goal.at.returns-clause-all g c).In_default)
