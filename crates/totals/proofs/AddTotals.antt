-- The total added to a lent element. Its number is that of the total, and 3 for a wide word of the element; where there is none the element is what
-- it was plus the total (`add-total-words`), word by word (`add-total-word`). From zero words it is the total (`add-total-zero`); a to b and then b
-- to c leave what a to c would (`add-totals-join`). The contract of a call is told case by case (`AddTold`). Assumes nothing.
use mathlib.Core.Path.{◌≡◌, refl, sym, ap, ap₂, ◌∙◌}
use mathlib.Core.Bool.{true}
use mathlib.Core.List.{List}
use Prim.Native.Nat.{ℕ, zero, suc, ◌+◌, ◌-◌, ◌%◌, ◌^◌, ◌<◌}
use native.Mathlib.Nat.{le_of_eq, add-mod-mod}
use native.Mathlib.Omega.{arith}
use lib.Dec.{lit<}
use lib.ListN.{length, get_or, length-replicate}
use Rattle.words.specs.Faults.{width_fault}
use Rattle.words.specs.Refusal.{first}
use Rattle.words.specs.Signed.{sum_of}
use Rattle.words.specs.Word.{add_w, all_in_width}
use Rattle.words.proofs.Tests.{bool_cases}
use Rattle.words.proofs.Refusals.{first-left, first-right, first-none, first_some, first-same}
use Rattle.words.proofs.Refusals.{unless-held, unless-yes, unless-no, unless_holds, kept-none, kept-some}
use Rattle.galois.specs.Element.{sum, difference, zero_e}
use Rattle.galois.proofs.Lists.{length-zip}
use Rattle.records.specs.declared.Heading.{Heading}
use Rattle.bundle.specs.Bundle.{params_of}
use Rattle.bundle.specs.Contents.{words_of}
use Rattle.fetch.specs.Fetch.{file_of}
use Rattle.totals.specs.Total.{words_no, run_total, run_in_width, added_to, total_fault, total_words, add_total_fault, add_total_words}
use Rattle.totals.proofs.Sums.{sum-assoc, zero_left, zip-within, sum-word, sum-width, zeros-width}
use Rattle.totals.proofs.Words.{words_length}
use Rattle.totals.proofs.Runs.{total-length, run-added, run-undone}
use Rattle.totals.proofs.Totals.{Found, TotalClear, total-width, total-clear, clear-total, total-split, run_join, total-words}

pub first-last : (x : ℕ) → first x 0 ≡ x
unfolding first
first-last zero = refl
first-last (suc x) = refl

module _ (bs : List ℕ) (holder a b : ℕ) (running : List ℕ) where
  abbrev k : ℕ
  k = (params_of bs).k

  abbrev added : List ℕ
  added = run_total bs (file_of bs holder) a (b - a)

  -- what no fault says, and what follows from it
  pub record AddClear : Type 0 where
    pub total : TotalClear bs holder a b (length running)
    pub width : all_in_width (params_of bs).k running ≡ true

  pub add-clear : add_total_fault bs holder a b running ≡ 0 → AddClear
  unfolding add_total_fault width_fault
  add-clear e =
      record {
        total = total-clear bs holder a b (length running) (first-left (total_fault bs holder a b (length running)) _ e);
        width = unless-held _ 3 (lit< tt) (first-right (total_fault bs holder a b (length running)) _ e);
      }

  pub clear-add : AddClear → add_total_fault bs holder a b running ≡ 0
  unfolding add_total_fault width_fault
  clear-add c =
      first-none (total_fault bs holder a b (length running)) _ (clear-total bs holder a b (length running) c.total)
      ∙ unless-yes _ 3 c.width

  -- "exactly the lent element plus the run's total"
  pub add-total-words : add_total_fault bs holder a b running ≡ 0 →
      add_total_words bs holder a b running ≡ sum (params_of bs).k running (run_total bs (file_of bs holder) a (b - a))
  unfolding add_total_words
  add-total-words e = kept-none (add_total_fault bs holder a b running) running (sum k running added) e

  -- a refused call leaves the element
  pub add-total-kept : (add_total_fault bs holder a b running ≡ 0 → ⊥) → add_total_words bs holder a b running ≡ running
  unfolding add_total_words
  add-total-kept n = kept-some (add_total_fault bs holder a b running) running (sum k running added) n

  pub add-total-length : add_total_fault bs holder a b running ≡ 0 → length (add_total_words bs holder a b running) ≡ (params_of bs).d
  add-total-length e =
      let l = total-length bs (file_of bs holder) a (b - a) in
      ap length (add-total-words e) ∙ length-zip (add_w k) running added ((add-clear e).total.output ∙ sym l) ∙ l

  -- word j
  pub add-total-word : (j : ℕ) → j < (params_of bs).d → add_total_fault bs holder a b running ≡ 0 →
      get_or (add_total_words bs holder a b running) j 0
      ≡ (get_or running j 0 + sum_of (words_no j (λ i. words_of bs (file_of bs holder) (a + i)) (b - a))) % 2 ^ (params_of bs).k
  unfolding add_w
  add-total-word j u e =
      let o = (add-clear e).total.output in
      let f = file_of bs holder in
      let l = total-length bs f a (b - a) in
      ap (λ (x : List ℕ). get_or x j 0) (add-total-words e)
      ∙ zip-within (add_w k) running added j (rw l u) (le_of_eq (l ∙ sym o))
      ∙ ap (λ (x : ℕ). (get_or running j 0 + x) % 2 ^ k)
      (sum-word k (params_of bs).d (λ i. words_of bs f (a + i)) j (b - a) u (λ i v. words_length bs f (a + i)))
      ∙ add-mod-mod (get_or running j 0) _ (2 ^ k)

  -- ---- the contract of a call: v is its number, and y what it leaves
  abbrev pub AddTold : ℕ → List ℕ → Type 0
  AddTold v y = (v ≡ add_total_fault bs holder a b running) × (y ≡ add_total_words bs holder a b running)

  declined : (v : ℕ) (y : List ℕ) → add_total_fault bs holder a b running ≡ v → (v ≡ 0 → ⊥) → y ≡ running → AddTold v y
  declined v y e n q = (sym e, q ∙ sym (add-total-kept (λ z. n (sym e ∙ z))))

  -- refused as the total is
  pub add-refused : (v : ℕ) (y : List ℕ) → v ≡ total_fault bs holder a b (length running) → (v ≡ 0 → ⊥) → y ≡ running → AddTold v y
  unfolding add_total_fault
  add-refused v y e n = declined v y (first_some (total_fault bs holder a b (length running)) _ (λ z. n (e ∙ z)) ∙ sym e) n

  module _ {h : Heading} {f : ℕ} (g : Found bs holder a b (length running) h f) where
    -- a wide word of the element: 3, whatever the words of the run
    pub add_wide : (v : ℕ) → v ≡ width_fault h.params.k running → (v ≡ 0 → ⊥) → AddTold v running
    unfolding add_total_fault width_fault
    add_wide v e n =
        bool_cases (all_in_width h.params.k running) (λ w. absurd (n (e ∙ unless-yes _ 3 w)))
        (λ w.
        (let t = run_in_width bs (file_of bs holder) a (b - a) in
        let z : v ≡ 3 = e ∙ unless-no _ 3 w in
        declined v running
        (ap₂ first (total-width bs holder a b (length running) g.asked) (unless-no _ 3 (rw g.heading at w))
        ∙ unless_holds (λ (x : ℕ). first x 3 ≡ 3) (first-none 0 3 refl) t 3 (first-same 3)
        ∙ sym z) n refl))

    -- none, and x is the element with the run added
    module _ (w : all_in_width h.params.k running ≡ true) (x : List ℕ) (q : x ≡ added_to h.params.k running (run_total bs f a (b - a))) where
      pub add-undone : total_fault bs holder a b (length running) ≡ 3 → (y : List ℕ) → y ≡ difference h.params.k x (run_total bs f a (b - a)) →
          AddTold 3 y
      add-undone z y r =
          add-refused 3 y (sym z) (λ z. omega arith) (run-undone bs h g.heading f a (b - a) running x y g.output w q r)

      pub add_done : total_fault bs holder a b (length running) ≡ 0 → AddTold 0 x
      add_done z =
          let e : add_total_fault bs holder a b running ≡ 0 =
          clear-add (record { total = total-clear bs holder a b (length running) z; width = rw g.heading at w }) in
          (sym e, run-added bs h g.heading f a (b - a) running x g.output q ∙ rw (g.heading, g.file) (sym (add-total-words e)))

-- from zero words: the number and the words of the total, into an output of as many
pub add-total-zero : (bs : List ℕ) (holder a b : ℕ) (old : List ℕ) →
    (add_total_fault bs holder a b (zero_e (length old)) ≡ total_fault bs holder a b (length old))
    × (total_fault bs holder a b (length old) ≡ 0 → add_total_words bs holder a b (zero_e (length old)) ≡ total_words bs holder a b old)
unfolding add_total_fault width_fault
add-total-zero bs holder a b old =
    (same, λ e. add-total-words bs holder a b (zero_e (length old)) (same ∙ e) ∙ from_zero e ∙ sym (total-words bs holder a b old e))
  where
    same : add_total_fault bs holder a b (zero_e (length old)) ≡ total_fault bs holder a b (length old)
    same =
        ap₂ first (ap (total_fault bs holder a b) (length-replicate (length old) 0)) (unless-yes _ 3 (zeros-width (params_of bs).k (length old)))
        ∙ first-last (total_fault bs holder a b (length old))

    from_zero : total_fault bs holder a b (length old) ≡ 0 → let t = run_total bs (file_of bs holder) a (b - a) in
        sum (params_of bs).k (zero_e (length old)) t ≡ t
    from_zero e =
        let f = file_of bs holder in
        let t = run_total bs f a (b - a) in
        zero_left (params_of bs).k (length old) t (le_of_eq (total-length bs f a (b - a) ∙ sym (total-clear bs holder a b (length old) e).output))
        (sum-width (params_of bs).k (params_of bs).d (λ i. words_of bs f (a + i)) (b - a))

-- a to b and then b to c
pub add-totals-join : (bs : List ℕ) (holder a b c : ℕ) (running : List ℕ) → add_total_fault bs holder a b running ≡ 0 →
    add_total_fault bs holder b c (add_total_words bs holder a b running) ≡ 0 →
    (add_total_fault bs holder a c running ≡ 0)
    × (add_total_words bs holder a c running ≡ add_total_words bs holder b c (add_total_words bs holder a b running))
add-totals-join bs holder a b c running x y =
    let u = add-clear bs holder a b running x in
    let v = (add-clear bs holder b c (add_total_words bs holder a b running) y).total in
    let f = file_of bs holder in
    let k = (params_of bs).k in
    let t = u.total in
    let z : add_total_fault bs holder a c running ≡ 0 =
    clear-add bs holder a c running
    (record {
      total = record {
        no_fault = t.no_fault;
        file = t.file;
        output = t.output;
        low = omega (arith, t.low, v.low);
        high = v.high;
        width = run_join bs f a b c t.low v.low t.width v.width;
      };
      width = u.width;
    }) in (
      z,
      add-total-words bs holder a c running z
          ∙ ap (sum k running) (total-split bs f a b c t.low v.low)
          ∙ sym (sum-assoc k running (run_total bs f a (b - a)) (run_total bs f b (c - b)))
          ∙ sym (add-total-words bs holder b c (add_total_words bs holder a b running) y
          ∙ ap (λ (x : List ℕ). sum k x (run_total bs f b (c - b))) (add-total-words bs holder a b running x)),
    )
