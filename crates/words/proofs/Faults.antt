-- What no fault tells of parameters, a length and words, and how a length or words that are right are passed over. Assumes nothing.
use Rattle.std.proofs.Common.{◌≡◌, ℕ, true, eqb, List, arith, eq-eqb, eqb-true}
use Rattle.words.specs.declared.Params.{Params}
use Rattle.words.specs.Params.{params_ok}
use Rattle.words.specs.Word.{all_in_width}
use Rattle.words.specs.Faults.{params_fault, length_fault, width_fault}
use Rattle.words.proofs.Refusals.{unless-held, unless-yes}
use Rattle.words.proofs.InRange.{InRange, ok-range, range-ok}

pub params-clear : (p : Params) → params_fault p ≡ 0 → InRange p
unfolding params_fault
params-clear p e = ok-range p (unless-held (params_ok p) 1 (omega arith) e)

pub clear-params : (p : Params) → InRange p → params_fault p ≡ 0
unfolding params_fault
clear-params p r = unless-yes (params_ok p) 1 (range-ok p r)

pub length-clear : (needed n : ℕ) → length_fault needed n ≡ 0 → n ≡ needed
unfolding length_fault
length-clear needed n e = eqb-true n needed (unless-held (eqb n needed) 2 (omega arith) e)

pub clear-length : (needed n : ℕ) → n ≡ needed → length_fault needed n ≡ 0
unfolding length_fault
clear-length needed n e = unless-yes (eqb n needed) 2 (eq-eqb n needed e)

pub width-clear : (k : ℕ) (s : List ℕ) → width_fault k s ≡ 0 → all_in_width k s ≡ true
unfolding width_fault
width-clear k s e = unless-held (all_in_width k s) 3 (omega arith) e
