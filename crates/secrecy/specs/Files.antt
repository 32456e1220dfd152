-- What t labs together can see of their files, paper 02, K7: files of one archive, in an accepted bundle, at one place or at all. Assumes nothing.
use Rattle.std.specs.Prelude.{ℕ, ◌<◌, ◌≡◌, true, ◌≢◌, List, [], ◌∷◌, map, length, get_or}
use Rattle.words.specs.Word.{all_in_width}
use Rattle.algebra.specs.Shares.{All}
use Rattle.galois.specs.Element.{Element}
use Rattle.codewords.specs.Codeword.{Share}
use Rattle.bundle.specs.Bundle.{bundle_fault, bundle_heading, params_of}
use Rattle.bundle.specs.Contents.{words_of}
use Rattle.fetch.specs.Fetch.{file_of, holder_fault}
use Rattle.secrecy.specs.Secrecy.{DealsTo}

-- no two the same
abbrev pub AllDifferent : List ℕ → Type 0
AllDifferent [] = Unit {0}
AllDifferent (h ∷ hs) = All (λ g. h ≢ g) hs × AllDifferent hs

-- t files of one archive: those of the holders hs, no two the same, in a bundle that is accepted, which may have further files
pub record GroupFiles (bs hs : List ℕ) : Type 0 where
  pub accepted : bundle_fault bs ≡ 0
  pub size : length hs ≡ (params_of bs).t
  pub present : All (λ h. holder_fault bs h ≡ 0) hs
  pub different : AllDifferent hs

-- the words of the job at place i of holder h's file
abbrev pub file_words : List ℕ → ℕ → ℕ → Element
file_words bs i h = words_of bs (file_of bs h) i

-- what these files have of it
abbrev pub shares_in : List ℕ → List ℕ → ℕ → List Share
shares_in bs hs i = map (λ h. record { holder = h; words = file_words bs i h }) hs

-- its words are in width
abbrev pub InWidthAt : List ℕ → List ℕ → ℕ → Type 0
InWidthAt bs hs i = All (λ h. all_in_width (params_of bs).k (file_words bs i h) ≡ true) hs

-- a list of coefficients for each place, with which dealing job after job gives what these files hold, all of it
pub record DealsFiles (bs hs : List ℕ) (jobs : List Element) (cs : List (List ℕ)) : Type 0 where
  pub count : length cs ≡ (bundle_heading bs).jobs
  pub at_place : (i : ℕ) → i < (bundle_heading bs).jobs → DealsTo (params_of bs) (shares_in bs hs i) (get_or jobs i []) (get_or cs i [])
