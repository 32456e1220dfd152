-- Shares got by the call of totals from each holder of a bundle, and lent with those holders and the bundle's e, open to what opening the run gives
-- (`totals-open`); so a run that opens to a total is opened to it from the holders' totals alone (`totals-open-to`). Assumes nothing.
use mathlib.Core.Path.{◌≡◌, refl, sym, ap, ap₂, ◌∙◌}
use mathlib.Core.Bool.{true}
use mathlib.Core.List.{List, ◌∷◌}
use Prim.Native.Nat.{ℕ, zero, suc, ◌+◌, ◌-◌, ◌*◌, ◌≤◌, ◌<◌}
use native.Mathlib.Omega.{arith}
use lib.ListN.{length}
use Rattle.algebra.specs.Shares.{All}
use Rattle.words.specs.Faults.{params_fault, length_fault}
use Rattle.words.specs.Refusal.{first, unless, HOLDER, WIDE_WORD}
use Rattle.words.proofs.Faults.{clear-params, clear-length}
use Rattle.words.proofs.Refusals.{first-none, unless-yes}
use Rattle.galois.specs.Element.{Element}
use Rattle.codewords.specs.Codeword.{Share, Polynomial}
use Rattle.codewords.specs.Opening.{Opening, secret_into, wrong_into, lowest_room, unless_fault, answer_to}
use Rattle.codewords.proofs.Opening.{unless-none}
use Rattle.sharing.specs.Dealt.{OpensTo}
use Rattle.sharing.specs.Opening.{lent, rising_to, lent_fault, opening}
use Rattle.bundle.specs.Bundle.{bundle_fault, bundle_heading, params_of, allowance_of, files_of, holder_of}
use Rattle.bundle.proofs.Bundles.{bundle-ok, bundle-ranges}
use Rattle.fetch.specs.Fetch.{run_fault}
use Rattle.fetch.proofs.Fetch.{holder-file, run_none}
use Rattle.totals.specs.Total.{run_total, run_in_width, total_fault, total_words}
use Rattle.totals.specs.Values.{values_from}
use Rattle.totals.proofs.AddTotals.{first-last}
use Rattle.totals.proofs.Totals.{TotalClear, total-clear, total-words}
use Rattle.totals.proofs.Values.{every-all}
use Rattle.archive.specs.Archive.{share_by, shares_over, files_in_width, run_opening, outputs_fault, opening_fault, open_run}
use Rattle.archive.specs.Dealt.{RunOpensTo}
use Rattle.archive.proofs.Shares.{total-element}
use Rattle.promises.specs.Totals.{holders_of, elements_of, totals_of}
use Rattle.promises.proofs.Changed.{shares_with}
use Rattle.promises.proofs.Elements.{elements-shares, elements-length}
use Rattle.promises.proofs.Written.{accepted-rise}

module _ (bs : List ℕ) (z : bundle_fault bs ≡ 0) (a b : ℕ) (old : ℕ → List ℕ)
    (taken : (f : ℕ) → f < files_of bs → total_fault bs (holder_of bs f) a b (length (old (holder_of bs f))) ≡ 0) where
  abbrev k : ℕ
  k = (params_of bs).k

  abbrev d : ℕ
  d = (params_of bs).d

  abbrev own : ℕ → Element
  own f = run_total bs f a (b - a)

  clear : (f : ℕ) → f < files_of bs → TotalClear bs (holder_of bs f) a b (length (old (holder_of bs f)))
  clear f l = total-clear bs (holder_of bs f) a b (length (old (holder_of bs f))) (taken f l)

  -- the holders' totals: of the files from i on each is that of the file, and of d words
  abbrev total : ℕ → List ℕ
  total h = total_words bs h a b (old h)

  totals-are : (i n : ℕ) → i + n ≤ files_of bs → let hs = values_from (holder_of bs) i n in
      All (λ h. length (total h) ≡ d) hs × (shares_with total hs ≡ values_from (share_by bs own) i n)
  unfolding values_from
  totals-are i zero h = (tt, refl)
  totals-are i (suc n) h =
      let holder = holder_of bs i in
      let e : total holder ≡ own i = total-words bs holder a b (old holder) (taken i (omega arith)) ∙ ap own (holder-file bs z i (omega arith)) in
      let rest = totals-are (suc i) n (omega arith) in (
        (ap length e ∙ (total-element bs i a (b - a)).0, rest.0),
        ap₂ (λ (x : Element) (ss : List Share). record { holder = holder; words = x } ∷ ss) e rest.1,
      )

  abbrev hs : List ℕ
  hs = holders_of bs

  abbrev ws : List ℕ
  ws = elements_of total hs

  all_are : All (λ h. length (total h) ≡ d) hs × (shares_with total hs ≡ shares_over bs a (b - a))
  all_are = totals-are 0 (files_of bs) (omega arith)

  -- all refusals but those of the outputs are none, of the lent totals and of the run
  lent-outputs : (n w lo : ℕ) → lent_fault (params_of bs) hs ws n w lo ≡ outputs_fault d n w lo
  unfolding lent_fault outputs_fault
  lent-outputs n w lo =
      first-none (params_fault (params_of bs)) _ (clear-params (params_of bs) (bundle-ranges bs (bundle-ok bs z)).book)
      ∙ first-none (length_fault (length hs * d) (length ws)) _
      (clear-length (length hs * d) (length ws) (elements-length d total hs all_are.0))
      ∙ ap (λ (x : ℕ). first (length_fault d n) (first (length_fault 1 w) (first (length_fault lowest_room lo) x)))
      (unless-yes (rising_to (params_of bs).n 0 hs) HOLDER (accepted-rise bs z))
      ∙ ap (λ (x : ℕ). first (length_fault d n) (first (length_fault 1 w) x)) (first-last (length_fault lowest_room lo))

  run-outputs : (n w lo : ℕ) → opening_fault bs n w lo (run_fault (bundle_heading bs) a b) ≡ outputs_fault d n w lo
  unfolding opening_fault
  run-outputs n w lo =
      let c = clear 0 (omega (arith, (bundle-ok bs z).files.some)) in
      first-none (bundle_fault bs) _ z
      ∙ ap (first (outputs_fault d n w lo)) (run_none (bundle_heading bs) a b c.low c.high)
      ∙ first-last (outputs_fault d n w lo)

  in_width : files_in_width bs a (b - a) ≡ true
  in_width =
      every-all (λ f. run_in_width bs f a (b - a)) (files_of bs)
      (λ f l. ap (λ (x : ℕ). run_in_width bs x a (b - a)) (sym (holder-file bs z f l)) ∙ (clear f l).width)

  -- the lent shares are those of the run, and they open to what it opens to, whatever the outputs are
  pub totals-open : (n w lo : ℕ) →
      (lent (params_of bs).d (holders_of bs) (totals_of (λ h. bs) a b old (holders_of bs)) ≡ shares_over bs a (b - a))
      × (opening (params_of bs) (holders_of bs) (totals_of (λ h. bs) a b old (holders_of bs)) (allowance_of bs) n w lo ≡ open_run bs a b n w lo)
  unfolding opening open_run run_opening
  totals-open n w lo =
      let shares = elements-shares d total hs all_are.0 ∙ all_are.1 in
      let p = params_of bs in
      let e = allowance_of bs in (
        shares,
        ap₂ unless_fault (lent-outputs n w lo) (ap (answer_to p e) shares)
            ∙ sym (ap₂ unless_fault (run-outputs n w lo)
            (unless-none (unless (files_in_width bs a (b - a)) WIDE_WORD) (answer_to p e (shares_over bs a (b - a)))
            (unless-yes (files_in_width bs a (b - a)) WIDE_WORD in_width))),
      )

  pub totals-open-to : (q : Polynomial) (s : Element) (x : ℕ) → RunOpensTo bs a b (params_of bs).d 1 64 q s x →
      OpensTo (params_of bs) (holders_of bs) (totals_of (λ h. bs) a b old (holders_of bs)) (allowance_of bs) q s x
  totals-open-to q s x g =
      let t = totals-open d 1 64 in
      record {
        opened = t.1 ∙ g.opened;
        secret = λ was. ap (secret_into was) t.1 ∙ g.secret was;
        wrong = λ was. ap₂ (λ (ss : List Share) (o : Opening). wrong_into k d ss was o) t.0 t.1 ∙ g.wrong was;
      }
