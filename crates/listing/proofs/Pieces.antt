-- The pieces of a text: each but those past the last has a byte, so they end; joined they are the text of the listing; and what is written after
-- any number of them is a beginning of it. And the printers of an input. Assumes nothing.
use mathlib.Core.Path.{◌≡◌, refl, sym, ap, ap₂, ◌∙◌}
use mathlib.Core.List.{List, [], ◌++◌, map, append-nil}
use Prim.Native.Nat.{ℕ, zero, suc, ◌+◌, ◌-◌, ◌≤◌, ◌<◌}
use native.Mathlib.Decide.{dec_le}
use native.Mathlib.Omega.{arith}
use borrow.Author.Tests.{le-ltb, lt-ltb}
use lib.ListN.{length, get_or, length-append}
use Rattle.std.proofs.Common.{Option, Some, None}
use Rattle.std.specs.Prelude.{MatchOption}
use Rattle.words.specs.Refusal.{kept}
use Rattle.words.specs.Signed.{signed_of}
use Rattle.words.specs.declared.Params.{Params}
use Rattle.codewords.specs.Codeword.{Share, error_set, positions}
use Rattle.codewords.specs.Opening.{Opening, declines, opens}
use Rattle.bundle.specs.Bundle.{bundle_heading, params_of, num_of, job_at, most_jobs}
use Rattle.bundle.proofs.Bundles.{bundle-ok, bundle-ranges}
use Rattle.archive.specs.Archive.{shares_at, place_opening}
use Rattle.decimal.specs.Decimal.{ascii, decimal}
use Rattle.text.specs.Text.{line_room, joined, holders_text, words_text, head_line, refused_line, job_line, open_line, declined_line}
use Rattle.text.proofs.Runs.{run-add, run-empty}
use Rattle.listing.specs.Listing.{line_by, line_of, lines_from, input_fault, unless_refused, listing_of}
use Rattle.listing.specs.Pieces.{piece_by, piece, pieces_in, pieces_from}
use Rattle.listing.specs.declared.Printer.{Printer}
use Rattle.listing.proofs.Input.{fault-none}

-- ---- which pieces have a byte

-- "Every printed line ends in LF."
refused-some : (n : ℕ) → 0 < length (refused_line n)
unfolding refused_line
refused-some n = omega (arith, length-append (ascii "refused " ++ decimal n) (ascii "\n"))

job-some : (number : ℕ) (state wrong words : List ℕ) → 0 < length (job_line number state wrong words)
unfolding job_line
job-some number state wrong words =
    omega (arith, length-append (decimal number ++ ascii " " ++ state ++ ascii " " ++ wrong ++ ascii " " ++ words) (ascii "\n"))

line-some : (bs : List ℕ) (p : ℕ) → 0 < length (line_of bs p)
unfolding line_of open_line declined_line
line-some bs p = go (params_of bs) (shares_at bs p) (num_of bs (job_at bs 0 p)) (place_opening bs p)
  where
    go : (q : Params) (ss : List Share) (n : ℕ) (o : Opening) → 0 < length (line_by q ss n o)
    go q ss n (declines c) = job-some n (decimal c) (joined []) (joined [])
    go q ss n (opens f) =
        job-some n (ascii "open") (holders_text (positions q.k q.d f ss) (error_set q.k q.d f ss)) (words_text (map (signed_of q.k) (get_or f 0 [])))

pub piece-some : (bs : List ℕ) (i : ℕ) → i < pieces_in bs → 0 < length (piece bs i)
unfolding piece pieces_in
piece-some bs i h = go (input_fault bs) i h
  where
    go : (c i : ℕ) → i < kept c 1 (suc (bundle_heading bs).jobs) → 0 < length (piece_by c bs i)
    go zero zero h = omega arith
    go zero (suc p) h = rw (lt-ltb p (bundle_heading bs).jobs (omega arith)) (line-some bs p)
    go (suc c) zero h = refused-some (suc c)
    go (suc c) (suc i) h = absurd (omega arith)

pub piece-none : (bs : List ℕ) (i : ℕ) → pieces_in bs ≤ i → piece bs i ≡ []
unfolding piece pieces_in
piece-none bs i h = go (input_fault bs) i h
  where
    go : (c i : ℕ) → kept c 1 (suc (bundle_heading bs).jobs) ≤ i → piece_by c bs i ≡ []
    go zero zero h = absurd (omega arith)
    go zero (suc p) h = rw (le-ltb p (bundle_heading bs).jobs (omega arith))
    go (suc c) zero h = absurd (omega arith)
    go (suc c) (suc i) h = refl

-- so the length tells whether the text has ended
pub piece-more : (bs : List ℕ) (i : ℕ) → (length (piece bs i) ≡ 0 → ⊥) → i < pieces_in bs
piece-more bs i n =
    elim (dec_le (pieces_in bs) i) [
      | yes h ↦ absurd (n (ap length (piece-none bs i h)))
      | no h ↦ omega arith
    ]

pub piece-last : (bs : List ℕ) (i : ℕ) → length (piece bs i) ≡ 0 → pieces_in bs ≤ i
piece-last bs i e =
    elim (dec_le (pieces_in bs) i) [
      | yes h ↦ h
      | no h ↦ absurd (let s : 0 < length (piece bs i) = piece-some bs i (omega arith) in omega (arith, s, e))
    ]

-- ---- the pieces joined

-- i pieces, and then n more
pub pieces-add : (bs : List ℕ) (a i n : ℕ) → pieces_from bs a i ++ pieces_from bs (a + i) n ≡ pieces_from bs a (i + n)
unfolding pieces_from
pieces-add bs = run-add (pieces_from bs) (piece bs) (λ i. refl) (λ i n. refl)

-- past the last there is nothing
pieces-past : (bs : List ℕ) (i n : ℕ) → pieces_in bs ≤ i → pieces_from bs i n ≡ []
unfolding pieces_from
pieces-past bs i n h = run-empty (pieces_from bs) (piece bs) (λ j. refl) (λ j m. refl) i n (λ j l m. piece-none bs j (omega arith))

-- the pieces after the first are the lines of the places
lines_are : (bs : List ℕ) (p n : ℕ) → input_fault bs ≡ 0 → p + n ≤ (bundle_heading bs).jobs → pieces_from bs (suc p) n ≡ lines_from bs p n
unfolding pieces_from lines_from piece
lines_are bs p zero z h = refl
lines_are bs p (suc n) z h =
    let l : piece_by 0 bs (suc p) ≡ line_of bs p = rw (lt-ltb p (bundle_heading bs).jobs (omega arith)) in
    ap₂ ◌++◌ (ap (λ (c : ℕ). piece_by c bs (suc p)) z ∙ l) (lines_are bs (suc p) n z (omega arith))

-- as many as there are
pieces_whole : (bs : List ℕ) → pieces_from bs 0 (pieces_in bs) ≡ listing_of bs
unfolding pieces_from pieces_in piece listing_of
pieces_whole bs = go (input_fault bs) refl
  where
    go : (c : ℕ) → input_fault bs ≡ c → pieces_from bs 0 (kept c 1 (suc (bundle_heading bs).jobs))
        ≡ unless_refused c (head_line ++ lines_from bs 0 (bundle_heading bs).jobs)
    go zero e = ap₂ ◌++◌ (ap (λ (c : ℕ). piece_by c bs 0) e) (lines_are bs 0 (bundle_heading bs).jobs e (omega arith))
    go (suc c) e = append-nil (piece bs 0) ∙ ap (λ (c : ℕ). piece_by c bs 0) e

-- The pieces from the start, one after another, are the listing, for every number of them from that on.
pub pieces-list : (bs : List ℕ) (n : ℕ) → pieces_in bs ≤ n → pieces_from bs 0 n ≡ listing_of bs
pieces-list bs n h =
    let m = pieces_in bs in
    let e : m + (n - m) ≡ n = omega (arith, h) in
    sym (ap (pieces_from bs 0) e)
    ∙ sym (pieces-add bs 0 m (n - m))
    ∙ ap₂ ◌++◌ (pieces_whole bs) (pieces-past bs (0 + m) (n - m) (omega arith))
    ∙ append-nil (listing_of bs)

-- What stands after any number of pieces is a beginning of the listing, and the pieces that follow are the rest.
pub pieces-begin : (bs : List ℕ) (i : ℕ) → pieces_from bs 0 i ++ pieces_from bs i (pieces_in bs - i) ≡ listing_of bs
pieces-begin bs i =
    let e : 0 + i ≡ i = omega arith in
    ap (λ (k : ℕ). pieces_from bs 0 i ++ pieces_from bs k (pieces_in bs - i)) (sym e)
    ∙ pieces-add bs 0 i (pieces_in bs - i)
    ∙ pieces-list bs (i + (pieces_in bs - i)) (omega arith)

-- ---- how many there are

-- a bundle has at most 1,000 jobs
pub pieces-few : (bs : List ℕ) → pieces_in bs ≤ suc most_jobs
unfolding pieces_in
pieces-few bs = go (input_fault bs) refl
  where
    go : (c : ℕ) → input_fault bs ≡ c → kept c 1 (suc (bundle_heading bs).jobs) ≤ suc most_jobs
    go zero e = let r = bundle-ranges bs (bundle-ok bs (fault-none bs e)) in omega (arith, r.jobs_high)
    go (suc c) e = omega arith

-- ---- the printers of an input: one that `start` gave, and that `next` alone moves, never stands past the pieces

pub printer-begins : (p : Printer) → p.next ≡ 0 → p.next ≤ pieces_in p.bytes.now
printer-begins p z = omega (arith, z)

-- r is what `next` gave, p the printer before it and q the one after, by its clauses `bytes` and `size`
pub printer-within : (p q : Printer) (r : Option ℕ) → p.next ≤ pieces_in p.bytes.now → q.bytes.now ≡ p.bytes.now →
    MatchOption r ((pieces_in p.bytes.now ≤ p.next) × (q.next ≡ p.next))
    (λ n. (n ≡ length (piece p.bytes.now p.next)) × (n ≤ line_room) × (p.next < pieces_in p.bytes.now) × (q.next ≡ p.next + 1)) →
    q.next ≤ pieces_in q.bytes.now
printer-within p q (Some n) h e m = rw e (omega (arith, m.2, m.3))
printer-within p q None h e m = rw e (omega (arith, h, m.1))
