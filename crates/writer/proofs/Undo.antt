-- The file writer and the reader undo each other: a file that was written is accepted and reads as the lent lists, and an accepted file whose words
-- are in width is what the writer writes of its contents. Lists with wide words, too, make a file that reads as them (`lists-fit`). Assumes nothing.
use mathlib.Core.Path.{◌≡◌, refl, ap, ap₂, ◌∙◌}
use Prim.Native.Nat.{ℕ, zero, suc, ◌+◌, ◌-◌, ◌*◌, ◌^◌, ◌≤◌, ◌<◌}
use native.Mathlib.Nat.{le_trans, pow-le-pow_right}
use native.Mathlib.Omega.{arith}
use mathlib.Core.List.{List, [], ◌∷◌, ◌++◌}
use mathlib.Core.Bool.{true}
use lib.ListN.{length, take, drop, length-append, length-drop}
use lib.Seq.{take_at, drop_at, get_or-take, get_or-drop, length-take-le}
use lib.Dec.{lit<}
use Rattle.words.specs.Word.{in_width, all_in_width}
use Rattle.words.specs.declared.Params.{Params}
use Rattle.words.proofs.Tests.{and_left, and_right}
use Rattle.words.proofs.Width.{in-width-lt}
use Rattle.records.specs.Num.{Bytes}
use Rattle.records.specs.Layout.{word_size}
use Rattle.records.specs.Record.{heading_of}
use Rattle.bundle.specs.Bundle.{ranges_ok, file_fault}
use Rattle.bundle.specs.Contents.{Job, File, file_from}
use Rattle.records.specs.declared.Heading.{Heading}
use Rattle.bundle.proofs.Headings.{ok-ranges, holder_ok_lem, ok-holder}
use Rattle.writer.specs.Bytes.{file_bytes}
use Rattle.writer.specs.Write.{heading_for, job_of, jobs_of, file_for, numbers_in, words_in, rising, write_fault}
use Rattle.writer.specs.Fits.{Words64, AllFit, no_job, a_job, FileFits, Rewritten}
use Rattle.writer.proofs.Fits.{file-length}
use Rattle.writer.proofs.Encode.{file-written}
use Rattle.writer.proofs.Decode.{file-read}
use Rattle.writer.proofs.Whole.{file-accepted}
use Rattle.writer.proofs.Calls.{jobs-count, writable, writes, rising-at, at-rising}

-- ---- numbers that rise, as a test and by their places

-- ---- lent lists make a file that can be written

pub nums-of : (d : ℕ) (ns ws : List ℕ) → numbers_in (jobs_of d ns ws) ≡ ns
unfolding jobs_of
nums-of d [] ws = refl
nums-of d (n ∷ ns) ws = ap (λ (l : List ℕ). n ∷ l) (nums-of d ns (drop d ws))

-- words in width are of 64 bits
pub width_fits : (k : ℕ) (ws : List ℕ) → k ≤ 64 → all_in_width k ws ≡ true → Words64 ws
unfolding all_in_width
width_fits k [] l e i = lit< tt
width_fits k (w ∷ ws) l e zero = le_trans (in-width-lt k w (and_left (in_width k w) _ e)) (pow-le-pow_right {n = 2} (lit< tt) l)
width_fits k (w ∷ ws) l e (suc i) = width_fits k ws l (and_right (in_width k w) _ e) i

jobs-fit : (h : Heading) (ns ws : List ℕ) → Words64 ns → length ns * h.params.d ≤ length ws → Words64 ws → AllFit h (jobs_of h.params.d ns ws)
unfolding jobs_of word_size
jobs-fit h [] ws a c f = no_job
jobs-fit h (n ∷ ns) ws a c f =
    let d = h.params.d in
    let e : d ≤ length ws = omega arith in
    let k : length (drop d ws) ≡ length ws - d = length-drop d ws in
    a_job {j = job_of n (take d ws)}
    (record {
      num_fits = a 0;
      words_count = length-take-le d ws e;
      words_fit = λ i l. rw (get_or-take d ws i 0 l) (f i);
    })
    (jobs-fit h ns (drop d ws) (λ i. a (suc i)) (omega arith) (λ i. rw (get_or-drop d ws i 0) (f (d + i))))

module _ (p : Params) (holder archive : ℕ) (ns ws : List ℕ) (u : archive < 2 ^ 64) (a : Words64 ns) where
  h : Heading
  h = heading_for p holder archive (length ns)

  -- with any words of 64 bits, also those that the writer declines as wide
  pub lists-fit : ranges_ok (heading_for p holder archive (length ns)) ≡ true → 1 ≤ holder → holder ≤ p.n → rising ns ≡ true →
      length ws ≡ length ns * p.d → Words64 ws → FileFits (file_for p holder archive ns ws)
  unfolding file_for h heading_for
  lists-fit r low high rises c f =
      record {
        ranges = r;
        low = low;
        high = high;
        archive_fits = u;
        count = jobs-count p.d ns ws;
        fit = jobs-fit h ns ws a (omega (arith, c)) f;
        rising = λ q l. rw (nums-of p.d ns ws) (rising-at ns q rises (omega (arith, jobs-count p.d ns ws)));
      }

  module _ (size : ℕ) (e : write_fault (heading_for p holder archive (length ns)) ns ws size ≡ 0) where
    pub file-for-fits : FileFits (file_for p holder archive ns ws)
    unfolding h heading_for
    file-for-fits =
        let fine = writable h ns ws size e in
        let o = ok-holder 0 h fine.holder in
        lists-fit fine.ranges o.0 o.1 fine.rises fine.count
        (width_fits p.k ws (ok-ranges h fine.ranges).book.k-high fine.width)

    -- a file that was written is accepted, and reads as what was written
    pub written_read : (file_fault (file_bytes (file_for p holder archive ns ws)) ≡ 0) ×
        (file_from (file_bytes (file_for p holder archive ns ws)) 0 ≡ file_for p holder archive ns ws)
    written_read = file-read (file_for p holder archive ns ws) file-for-fits

-- ---- an accepted file is written from its own contents

numbers-count : (js : List Job) → length (numbers_in js) ≡ length js
numbers-count [] = refl
numbers-count (j ∷ js) = ap suc (numbers-count js)

words-in-count : (h : Heading) (js : List Job) → AllFit h js → length (words_in js) ≡ length js * h.params.d
unfolding words_in
words-in-count h [] a = omega arith
words-in-count h (j ∷ js) (a_job f a) =
    length-append j.words (words_in js) ∙ ap₂ ◌+◌ f.words_count (words-in-count h js a) ∙ omega arith

jobs-again : (h : Heading) (js : List Job) → AllFit h js → jobs_of h.params.d (numbers_in js) (words_in js) ≡ js
unfolding jobs_of words_in
jobs-again h [] a = refl
jobs-again h (j ∷ js) (a_job f a) =
    let d = h.params.d in
    let t : take d (j.words ++ words_in js) ≡ j.words = take_at j.words (words_in js) d f.words_count in
    let r : drop d (j.words ++ words_in js) ≡ words_in js = drop_at j.words (words_in js) d f.words_count in
    ap₂ ◌∷◌ (ap (job_of j.num) t) (ap (jobs_of d (numbers_in js)) r ∙ jobs-again h js a)

module _ (f : File) (w : FileFits f) where
  heading-again : heading_for f.heading.params f.heading.holder f.heading.archive (length (numbers_in f.jobs)) ≡ f.heading
  unfolding heading_for
  heading-again =
      let n = numbers-count f.jobs ∙ w.count in
      λ i. record { params = f.heading.params; holder = f.heading.holder; archive = f.heading.archive; jobs = n i }

  file-again : file_for f.heading.params f.heading.holder f.heading.archive (numbers_in f.jobs) (words_in f.jobs) ≡ f
  unfolding file_for
  file-again =
      let h = heading-again in
      let j = jobs-again f.heading f.jobs w.fit in
      λ i. record { heading = h i; jobs = j i }

  pub rewritten : all_in_width f.heading.params.k (words_in f.jobs) ≡ true → Rewritten f (file_bytes f)
  rewritten k =
      record {
        fault = rw heading-again
            (writes f.heading (numbers_in f.jobs) (words_in f.jobs) (length (file_bytes f))
            (record {
              ranges = w.ranges;
              count = words-in-count f.heading f.jobs w.fit ∙ ap (λ (n : ℕ). n * f.heading.params.d) w.count;
              room = file-length f w;
              holder = holder_ok_lem 0 f.heading w.low w.high;
              rises = at-rising (numbers_in f.jobs) (λ p l. w.rising p (rw (numbers-count f.jobs) at l));
              width = k;
            }));
        bytes = ap file_bytes file-again;
      }

-- every accepted file with words in width is byte for byte what the writer writes for its contents
pub file-rewritten : (bs : List ℕ) → Bytes bs → file_fault bs ≡ 0 → all_in_width (heading_of bs 0).params.k (words_in (file_from bs 0).jobs) ≡ true →
    Rewritten (file_from bs 0) bs
unfolding file_from
file-rewritten bs b e k =
    rw (file-written bs b e) at (rewritten (file_from bs 0) (file-accepted bs b e) k)
