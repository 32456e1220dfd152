-- Totals that are taken holder by holder, and then lent to be opened: from one bundle, or by each holder from its own file or files. Assumes nothing.
use Rattle.std.specs.Prelude.{◌≡◌, ℕ, ◌-◌, List, [], ◌∷◌, ◌++◌, length, take, drop}
use Rattle.sharing.specs.Dealt.{Job}
use Rattle.bundle.specs.Bundle.{files_of, holder_of}
use Rattle.totals.specs.Total.{total_fault, total_words, add_total_fault, add_total_words}
use Rattle.totals.specs.Values.{values_from}
use Rattle.promises.specs.Written.{Archive, written_bundle, Written}

-- the holders of a bundle's files
abbrev pub holders_of : List ℕ → List ℕ
holders_of bs = values_from (holder_of bs) 0 (files_of bs)

-- the holders' elements, one after another, as the call of opening is lent them
unfoldable pub elements_of : (ℕ → List ℕ) → List ℕ → List ℕ
elements_of own [] = []
elements_of own (h ∷ hs) = own h ++ elements_of own hs

-- what the call of totals gives each of the holders for the places a to b - 1, one after another: holder h from the bundle bs h, into an output that
-- held old h before
abbrev pub totals_of : (ℕ → List ℕ) → ℕ → ℕ → (ℕ → List ℕ) → List ℕ → List ℕ
totals_of bs a b old = elements_of (λ h. total_words (bs h) h a b (old h))

-- holder h's file, bundled alone
abbrev pub alone : Archive → ℕ → Archive
alone a h =
    record {
      params = a.params;
      number = a.number;
      numbers = a.numbers;
      holders = h ∷ [];
      words = a.words;
      allowance = a.allowance;
    }

abbrev pub own_bundle : Archive → ℕ → List ℕ
own_bundle a h = written_bundle (alone a h)

-- holder h wrote and bundled its file alone, and the call of totals returned 0 for the places x to y - 1 of it: each call returned 0
pub record OwnTotal (a : Archive) (x y : ℕ) (old : List ℕ) (h : ℕ) : Type 0 where
  pub written : Written (alone a h)
  pub no_fault : total_fault (own_bundle a h) h x y (length old) ≡ 0

-- a run of an archive's files, the places from `from` to `to` - 1, and the jobs that the archive was dealt
pub record Part : Type 0 where
  pub archive : Archive
  pub jobs : List Job
  pub from : ℕ
  pub to : ℕ

-- the jobs of these runs, in order
unfoldable pub jobs_over : List Part → List Job
jobs_over [] = []
jobs_over (r ∷ rs) = take (r.to - r.from) (drop r.from r.jobs) ++ jobs_over rs

-- holder h's element after the call that adds such a run of its own file to it
abbrev pub added_one : Part → ℕ → List ℕ → List ℕ
added_one r h was = add_total_words (own_bundle r.archive h) h r.from r.to was

-- what it is after the calls for these runs, one after another
unfoldable pub added_over : List Part → ℕ → List ℕ → List ℕ
added_over [] h was = was
added_over (r ∷ rs) h was = added_over rs h (added_one r h was)

-- holder h wrote and bundled its file alone, and the call that adds the run returned 0
pub record OwnAdd (r : Part) (h : ℕ) (was : List ℕ) : Type 0 where
  pub written : Written (alone r.archive h)
  pub no_fault : add_total_fault (own_bundle r.archive h) h r.from r.to was ≡ 0

-- so for each run: each call returned 0
abbrev pub OwnAdds : List Part → ℕ → List ℕ → Type 0
OwnAdds [] h was = Unit {0}
OwnAdds (r ∷ rs) h was = OwnAdd r h was × OwnAdds rs h (added_one r h was)
