-- What is handed out as a refusal: a round that found nothing, and a test that failed. Assumes nothing.
use Rattle.std.proofs.Common.{◌≡◌, ℕ, Bool, true, false, Option, Result, refl, sym, ◌∙◌, ap}
use Rattle.std.specs.declared.option.Option.TheVariants.{Some, None}
use Rattle.std.specs.declared.result.Result.TheVariants.{Ok, Err}
use Rattle.std.specs.Option.{ok_or}
use Rattle.std.specs.Result.{IsErrAnd}
use Rattle.std.proofs.lemmas.Result.{err_from_is_err_and}
use Rattle.words.specs.Refusal.{number_of, unless}
use Rattle.words.specs.declared.Refusal.{Refusal}
use Rattle.words.specs.declared.Refusal.TheVariants.{NoCodeword}
use Rattle.words.proofs.Refusals.{number-some}

-- what was found, by the call's outcome x
pub given : {A : Type 0} (o : Option A) (x : Result A Refusal) (a : A) → x ≡ ok_or o NoCodeword → x ≡ Ok a → o ≡ Some a
given (Some b) x a h w = let e : ◌≡◌ {A = Result _ Refusal} (Ok b) (Ok a) = sym h ∙ w in cc
given None x a h w = let e : ◌≡◌ {A = Result _ Refusal} (Err NoCodeword) (Ok a) = sym h ∙ w in cc

-- nothing was, and this is what is handed out
pub declined : {A : Type 0} (o : Option A) (x : Result A Refusal) (r : Result ℕ Refusal) (e : Refusal) → x ≡ ok_or o NoCodeword → x ≡ Err e →
    IsErrAnd r (λ y. y ≡ e) → (o ≡ None) × (r ≡ Err NoCodeword)
declined (Some b) x r e h w q = let z : ◌≡◌ {A = Result _ Refusal} (Ok b) (Err e) = sym h ∙ w in cc
declined None x r e h w q =
    let p = err_from_is_err_and r q in
    let z : ◌≡◌ {A = Result _ Refusal} (Err NoCodeword) (Err e) = sym h ∙ w in
    let n : e ≡ NoCodeword = cc in
    (refl, p.1 ∙ ap Err (p.2 ∙ n))

-- a test that failed, by the refusal that it gave
pub failed : (b : Bool) (c : ℕ) (e : Refusal) → number_of e ≡ unless b c → (b ≡ false) × (number_of e ≡ c)
unfolding unless
failed true c e h = absurd (number-some e h)
failed false c e h = (refl, h)
