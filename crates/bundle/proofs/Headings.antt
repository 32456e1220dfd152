-- Laws of the fault of one heading and of one job: each case, and what no fault says. Assumes nothing.
use mathlib.Core.Path.{◌≡◌, refl, ap, ap₂, ◌∙◌}
use Prim.Native.Nat.{ℕ, zero, suc, ◌+◌, ◌*◌, ◌≤◌, ◌<◌}
use mathlib.Core.List.{List}
use mathlib.Core.Bool.{Bool, true, false, ◌&&◌, ◌||◌}
use lib.Dec.{ltb, eqb, lit<}
use borrow.Author.Tests.{le-leb, lt-ltb, eq-eqb, leb-true, ltb-true, eqb-true}
use Rattle.words.specs.Refusal.{first, unless}
use Rattle.words.specs.Params.{params_ok}
use Rattle.words.specs.declared.Params.{Params}
use Rattle.words.proofs.Tests.{and_left, and_right, and_both, and_yes, and_no}
use Rattle.words.proofs.Refusals.{first-assoc, pass, stop, first-left, first-right, unless-held, unless-yes}
use Rattle.words.proofs.InRange.{InRange, ok-range}
use Rattle.records.specs.Layout.{record_size, head_kind, head_len, head_size, word_size, job_kind, job_len_of, job_len, file_size}
use Rattle.records.specs.Record.{framed, Frame, heading_of}
use Rattle.bundle.specs.Bundle.{most_jobs, ranges_ok, holder_ok, same_params, belongs, heading_fault, num_of, job_fault_at}
use Rattle.bundle.specs.Acceptance.{Same, HeadingOk}
use Rattle.records.specs.declared.Heading.{Heading}
use Rattle.records.proofs.Record.{framed-frame, frame-framed}

-- ---- tests

-- two tests of one fault, in turn
pub test-both : (a b : Bool) (c : ℕ) → unless (a && b) c ≡ first (unless a c) (unless b c)
unfolding unless first
test-both true b c = refl
test-both false true zero = refl
test-both false false zero = refl
test-both false b (suc c) = refl

-- ---- ranges and belonging, as tests and as facts

pub record Ranges (h : Heading) : Type 0 where
  pub book : InRange h.params
  pub jobs_high : h.jobs ≤ most_jobs

pub ok-ranges : (h : Heading) → ranges_ok h ≡ true → Ranges h
unfolding ranges_ok
ok-ranges h e =
    record {
      book = ok-range h.params (and_left (params_ok h.params) _ e);
      jobs_high = leb-true h.jobs most_jobs (and_right (params_ok h.params) _ e);
    }

pub same_params_lem : (a b : Params) → a ≡ b → same_params a b ≡ true
unfolding same_params
same_params_lem a b e =
    simp (
      eq-eqb a.k b.k (ap (λ (p : Params). p.k) e),
      eq-eqb a.d b.d (ap (λ (p : Params). p.d) e),
      eq-eqb a.n b.n (ap (λ (p : Params). p.n) e),
      eq-eqb a.t b.t (ap (λ (p : Params). p.t) e),
    )

pub params_same : (a b : Params) → same_params a b ≡ true → a ≡ b
unfolding same_params
params_same a b e₁ =
    let e₂ = and_right (eqb a.k b.k) _ e₁ in
    let e₃ = and_right (eqb a.d b.d) _ e₂ in
    let p₁ : a.k ≡ b.k = eqb-true _ _ (and_left (eqb a.k b.k) _ e₁) in
    let p₂ : a.d ≡ b.d = eqb-true _ _ (and_left (eqb a.d b.d) _ e₂) in
    let p₃ : a.n ≡ b.n = eqb-true _ _ (and_left (eqb a.n b.n) _ e₃) in
    let p₄ : a.t ≡ b.t = eqb-true _ _ (and_right (eqb a.n b.n) _ e₃) in
    λ i. record { k = p₁ i; d = p₂ i; n = p₃ i; t = p₄ i }

pub same_self : (h : Heading) → Same h h
same_self h = record { params_is = refl; archive_is = refl; jobs_is = refl }

pub same-belongs : (a b : Heading) → Same a b → belongs a b ≡ true
unfolding belongs
same-belongs a b s =
    and_both _ _ (same_params_lem a.params b.params s.params_is)
    (and_both _ _ (eq-eqb a.archive b.archive s.archive_is) (eq-eqb a.jobs b.jobs s.jobs_is))

pub belongs-same : (a b : Heading) → belongs a b ≡ true → Same a b
unfolding belongs
belongs-same a b e =
    let r = and_right (same_params a.params b.params) _ e in
    record {
      params_is = params_same a.params b.params (and_left (same_params a.params b.params) _ e);
      archive_is = eqb-true _ _ (and_left (eqb a.archive b.archive) _ r);
      jobs_is = eqb-true _ _ (and_right (eqb a.archive b.archive) _ r);
    }

-- files that belong together have records of the same sizes
module _ (a b : Heading) (s : Same a b) where
  pub same_head : head_size a ≡ head_size b
  unfolding head_len
  same_head = refl

  pub same_word : word_size a ≡ word_size b
  unfolding word_size
  same_word = refl

  pub same-job : job_len a ≡ job_len b
  same-job = ap₂ job_len_of same_word (ap (λ (p : Params). p.d) s.params_is)

  pub same-file : file_size a ≡ file_size b
  unfolding file_size
  same-file = ap₂ ◌+◌ same_head (ap₂ (λ (n l : ℕ). n * record_size l) s.jobs_is same-job)

-- ---- the fault of a heading, case by case

module _ (bs : List ℕ) (base prev at : ℕ) where
  pub heading-7 : framed bs (head_kind (heading_of bs at)) (head_len (heading_of bs at)) at ≡ false → heading_fault bs base prev at ≡ 7
  unfolding heading_fault
  heading-7 e = stop (framed bs (head_kind (heading_of bs at)) (head_len (heading_of bs at)) at) 7 _ (lit< tt) e

  pub heading-rest : framed bs (head_kind (heading_of bs at)) (head_len (heading_of bs at)) at ≡ true → let h = heading_of bs at in
      heading_fault bs base prev at ≡ first (unless (ranges_ok h) 1) (first (unless (holder_ok prev h) 4) (unless (belongs (heading_of bs base) h) 8))
  unfolding heading_fault
  heading-rest f = pass _ 7 _ f

-- the test of a holder
pub holder_ok_lem : (prev : ℕ) (h : Heading) → prev < h.holder → h.holder ≤ h.params.n → holder_ok prev h ≡ true
unfolding holder_ok
holder_ok_lem prev h l u = and_both _ _ (lt-ltb prev h.holder l) (le-leb h.holder h.params.n u)

pub ok-holder : (prev : ℕ) (h : Heading) → holder_ok prev h ≡ true → (prev < h.holder) × (h.holder ≤ h.params.n)
unfolding holder_ok
ok-holder prev h e =
    (ltb-true prev h.holder (and_left _ _ e), leb-true h.holder h.params.n (and_right (ltb prev h.holder) _ e))

-- what a heading with no fault says
module _ (bs : List ℕ) (base prev at : ℕ) where
  pub heading-ok : heading_fault bs base prev at ≡ 0 → HeadingOk bs base prev at
  unfolding heading_fault
  heading-ok e₁ =
      let h = heading_of bs at in
      let e₂ = first-right (unless (framed bs (head_kind h) (head_len h) at) 7) _ e₁ in
      let e₃ = first-right (unless (ranges_ok h) 1) _ e₂ in
      let e₄ = first-right (unless (holder_ok prev h) 4) _ e₃ in
      let t = ok-holder prev h (unless-held _ 4 (lit< tt) (first-left (unless (holder_ok prev h) 4) _ e₃)) in
      record {
        frame = framed-frame bs (head_kind h) (head_len h) at (unless-held _ 7 (lit< tt)
            (first-left (unless (framed bs (head_kind h) (head_len h) at) 7) _ e₁));
        ranges = unless-held _ 1 (lit< tt) (first-left (unless (ranges_ok h) 1) _ e₂);
        rises = t.0;
        within = t.1;
        same = belongs-same (heading_of bs base) h (unless-held _ 8 (lit< tt) e₄);
      }

  pub ok-heading : HeadingOk bs base prev at → heading_fault bs base prev at ≡ 0
  ok-heading k =
      let h = heading_of bs at in
      heading-rest bs base prev at (frame-framed bs (head_kind h) (head_len h) at k.frame)
      ∙ pass (ranges_ok h) 1 _ k.ranges
      ∙ pass (holder_ok prev h) 4 _ (holder_ok_lem prev h k.rises k.within)
      ∙ unless-yes _ 8 (same-belongs (heading_of bs base) h k.same)

-- ---- the fault of a job record, case by case

module _ (bs : List ℕ) (len base prev p at : ℕ) where
  pub job-7 : framed bs job_kind len at ≡ false → job_fault_at bs len base prev p at ≡ 7
  unfolding job_fault_at
  job-7 e = stop _ 7 _ (lit< tt) (and_no (framed bs job_kind len at) _ e)

  module _ (f : framed bs job_kind len at ≡ true) where
    pub job-low : (eqb p 0 || ltb prev (num_of bs at)) ≡ false → job_fault_at bs len base prev p at ≡ 7
    unfolding job_fault_at
    job-low e = stop _ 7 _ (lit< tt) (and_yes (framed bs job_kind len at) _ f e)

    pub job-8 : (eqb p 0 || ltb prev (num_of bs at)) ≡ true →
        job_fault_at bs len base prev p at ≡ unless (eqb (num_of bs base) (num_of bs at)) 8
    unfolding job_fault_at
    job-8 r = pass _ 7 _ (and_both _ _ f r)

-- its tests in turn
pub job_split : (bs : List ℕ) (len base prev p at : ℕ) → job_fault_at bs len base prev p at
    ≡ first (unless (framed bs job_kind len at) 7) (first (unless (eqb p 0 || ltb prev (num_of bs at)) 7) (unless (eqb (num_of bs base) (num_of bs at)) 8))
unfolding job_fault_at
job_split bs len base prev p at =
    let r = eqb p 0 || ltb prev (num_of bs at) in
    let e = unless (eqb (num_of bs base) (num_of bs at)) 8 in
    ap (λ (x : ℕ). first x e) (test-both (framed bs job_kind len at) r 7) ∙ first-assoc (unless (framed bs job_kind len at) 7) (unless r 7) e

-- what a job record with no fault says
pub record JobOk (bs : List ℕ) (len base prev p at : ℕ) : Type 0 where
  pub frame : Frame bs job_kind len at
  pub rises : (eqb p 0 || ltb prev (num_of bs at)) ≡ true
  pub same : num_of bs base ≡ num_of bs at

module _ (bs : List ℕ) (len base prev p at : ℕ) where
  pub job-ok : job_fault_at bs len base prev p at ≡ 0 → JobOk bs len base prev p at
  unfolding job_fault_at
  job-ok e =
      let t = unless-held _ 7 (lit< tt) (first-left _ (unless (eqb (num_of bs base) (num_of bs at)) 8) e) in
      let s = first-right _ (unless (eqb (num_of bs base) (num_of bs at)) 8) e in
      record {
        frame = framed-frame bs job_kind len at (and_left (framed bs job_kind len at) _ t);
        rises = and_right (framed bs job_kind len at) _ t;
        same = eqb-true _ _ (unless-held _ 8 (lit< tt) s);
      }

  pub ok-job : JobOk bs len base prev p at → job_fault_at bs len base prev p at ≡ 0
  ok-job j =
      job-8 bs len base prev p at (frame-framed bs job_kind len at j.frame) j.rises
      ∙ unless-yes _ 8 (eq-eqb (num_of bs base) (num_of bs at) j.same)
