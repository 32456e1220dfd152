-- What the calls for job text promise one another: a text that was written reads as the job that it was written of (`write-reads`), a text that was
-- read is what writing gives (`read-writes`), reading gives 0 exactly for the text of a job (`read-tells`, `read-accepts`) and 11 for every other
-- (`read-declines`), two jobs written as one text are the same (`written_once`), and the size that is told is the one to lend (`size-writes`).
-- Assumes nothing.
use Rattle.std.proofs.Common.{◌≡◌, ℕ, ◌^◌, ◌<◌, ◌≤◌, true, eqb, List, [], ◌∷◌, length, get_or, sym, ap, ◌∙◌, lit<, eqb-true}
use Rattle.words.specs.declared.Params.{Params}
use Rattle.words.specs.Faults.{params_fault, length_fault, width_fault}
use Rattle.words.specs.Refusal.{first, unless}
use Rattle.words.specs.Word.{all_in_width}
use Rattle.words.proofs.Faults.{params-clear, length-clear, clear-length, width-clear}
use Rattle.words.proofs.Refusals.{first-left, first-right, first-none, unless-held, unless-yes, unless-no, kept-none, kept-some}
use Rattle.words.proofs.Tests.{not-held}
use Rattle.labelled.specs.JobText.{text_of, IsJob, SomeText}
use Rattle.labelled.specs.Reading.{scanned, is_text, words_of}
use Rattle.labelled.specs.Calls.{lens_fault, words_fault, size_fault, write_fault, read_fault, SizeReturned, WriteReturned, ReadReturned, ReadAs}
use Rattle.labelled.proofs.Exact.{text_is, number-back, words-read, one-text, text-back, job_read, text-exact}

-- ---- what is known where a call does not decline

-- a book with a text
pub record Lens (p : Params) : Type 0 where
  pub low : 1 ≤ p.k
  pub high : p.k ≤ 64
  pub four : p.d ≡ 4

pub lens-clear : (p : Params) → lens_fault p ≡ 0 → Lens p
unfolding lens_fault
lens-clear p e =
    let r = params-clear p (first-left (params_fault p) _ e) in
    record {
      low = r.k-low;
      high = r.k-high;
      four = eqb-true p.d 4 (unless-held (eqb p.d 4) 1 (lit< tt) (first-right (params_fault p) _ e));
    }

-- four words in width
pub words-four : (k : ℕ) (words : List ℕ) → words_fault k words ≡ 0 → length words ≡ 4
unfolding words_fault
words-four k words e = length-clear 4 (length words) (first-left (length_fault 4 (length words)) _ e)

pub words-wide : (k : ℕ) (words : List ℕ) → words_fault k words ≡ 0 → all_in_width k words ≡ true
unfolding words_fault
words-wide k words e = width-clear k words (first-right (length_fault 4 (length words)) _ e)

clear-words : (k : ℕ) (words : List ℕ) → length words ≡ 4 → all_in_width k words ≡ true → words_fault k words ≡ 0
unfolding words_fault width_fault
clear-words k words four narrow =
    first-none (length_fault 4 (length words)) _ (clear-length 4 (length words) four) ∙ unless-yes (all_in_width k words) 3 narrow

-- writing
module _ (p : Params) (number : ℕ) (words : List ℕ) (n : ℕ) (e : write_fault p number words n ≡ 0) where
  pub write-lens : lens_fault p ≡ 0
  unfolding write_fault
  write-lens = first-left (lens_fault p) _ e

  write-after : first (words_fault p.k words) (length_fault (length (text_of p.k number words)) n) ≡ 0
  unfolding write_fault
  write-after = first-right (lens_fault p) _ e

  pub write-words : words_fault p.k words ≡ 0
  write-words = first-left (words_fault p.k words) _ write-after

  pub write-job : number < 2 ^ 64 → IsJob p.k number words
  write-job h = record { number_fits = h; four = words-four p.k words write-words; narrow = words-wide p.k words write-words }

-- the output is the last thing that writing looks at
pub write-fault : (p : Params) (number : ℕ) (words : List ℕ) (n : ℕ) → lens_fault p ≡ 0 → length words ≡ 4 → all_in_width p.k words ≡ true
    → write_fault p number words n ≡ length_fault (length (text_of p.k number words)) n
unfolding write_fault
write-fault p number words n z four narrow =
    first-none (lens_fault p) _ z ∙ first-none (words_fault p.k words) _ (clear-words p.k words four narrow)

-- telling the size
module _ (p : Params) (words : List ℕ) (n : ℕ) (e : size_fault p words n ≡ 0) where
  pub size-lens : lens_fault p ≡ 0
  unfolding size_fault
  size-lens = first-left (lens_fault p) _ e

  after-book : first (length_fault 1 n) (words_fault p.k words) ≡ 0
  unfolding size_fault
  after-book = first-right (lens_fault p) _ e

  pub size-one : n ≡ 1
  size-one = length-clear 1 n (first-left (length_fault 1 n) _ after-book)

  pub size-words : words_fault p.k words ≡ 0
  size-words = first-right (length_fault 1 n) _ after-book

-- reading
module _ (p : Params) (text : List ℕ) (n w : ℕ) (z : lens_fault p ≡ 0) (one : n ≡ 1) (four : w ≡ 4) where
  pub read-fault : read_fault p text n w ≡ unless (is_text p.k text) 11
  unfolding read_fault
  read-fault =
      first-none (lens_fault p) _ z
      ∙ first-none (length_fault 1 n) _ (clear-length 1 n one)
      ∙ first-none (length_fault 4 w) _ (clear-length 4 w four)

module _ (p : Params) (text : List ℕ) (n w : ℕ) (e : read_fault p text n w ≡ 0) where
  pub read-lens : lens_fault p ≡ 0
  unfolding read_fault
  read-lens = first-left (lens_fault p) _ e

  after_lens : first (length_fault 1 n) (first (length_fault 4 w) (unless (is_text p.k text) 11)) ≡ 0
  unfolding read_fault
  after_lens = first-right (lens_fault p) _ e

  pub read_is : is_text p.k text ≡ true
  read_is =
      unless-held (is_text p.k text) 11 (lit< tt) (first-right (length_fault 4 w) _ (first-right (length_fault 1 n) _ after_lens))

-- ---- reading

-- what a call that returned 0 left: a job whose text it is
pub read-tells : {p : Params} {text old_number old_words number words : List ℕ} → ReadReturned p text old_number old_words 0 number words
    → ReadAs p.k text number words
read-tells {p} {text} {old_number} {old_words} r =
    let e = sym r.fault in
    let b = lens-clear p (read-lens p text (length old_number) (length old_words) e) in
    let t = read_is p text (length old_number) (length old_words) e in
    let w = r.words_left ∙ kept-none _ old_words (words_of p.k (scanned text)) e in
    record {
      value = (scanned text).number;
      single = r.number_left ∙ kept-none _ old_number ((scanned text).number ∷ []) e;
      job = rw w (job_read p.k b.low b.high text t);
      text_is = rw w (text-back p.k b.low b.high text t);
    }

-- the text of a job is accepted, and gives that job
pub read-accepts : {p : Params} {old_number old_words number words : List ℕ} {r : ℕ} (n : ℕ) (w : List ℕ)
    → ReadReturned p (text_of p.k n w) old_number old_words r number words
    → lens_fault p ≡ 0 → length old_number ≡ 1 → length old_words ≡ 4 → IsJob p.k n w → (r ≡ 0) × (number ≡ n ∷ []) × (words ≡ w)
read-accepts {p} {old_number} {old_words} n w r z one four j =
    let b = lens-clear p z in
    let text = text_of p.k n w in
    let e =
    read-fault p text (length old_number) (length old_words) z one four
    ∙ unless-yes (is_text p.k text) 11 (text_is p.k b.low b.high n w j) in (
      r.fault ∙ e,
      r.number_left ∙ kept-none _ old_number _ e ∙ ap (λ (x : ℕ). x ∷ []) (number-back p.k b.low b.high n w j),
      r.words_left ∙ kept-none _ old_words _ e ∙ words-read p.k b.low b.high n w j,
    )

-- and every other text gives 11, and no other does
pub read-declines : {p : Params} {text old_number old_words number words : List ℕ} {r : ℕ} → ReadReturned p text old_number old_words r number words
    → lens_fault p ≡ 0 → length old_number ≡ 1 → length old_words ≡ 4 → (SomeText p.k text → ⊥) → r ≡ 11
read-declines {p} {text} {old_number} {old_words} r z one four f =
    let b = lens-clear p z in
    r.fault
    ∙ read-fault p text (length old_number) (length old_words) z one four
    ∙ unless-no (is_text p.k text) 11 (not-held (is_text p.k text) (λ t. f ((text-exact p.k b.low b.high text).0 t)))

-- a refused call leaves both outputs
pub read_keeps : {p : Params} {text old_number old_words number words : List ℕ} {r : ℕ} → ReadReturned p text old_number old_words r number words
    → (r ≡ 0 → ⊥) → (number ≡ old_number) × (words ≡ old_words)
read_keeps {old_number = old_number} {old_words = old_words} r n = (
  r.number_left ∙ kept-some _ old_number _ (λ z. n (r.fault ∙ z)),
  r.words_left ∙ kept-some _ old_words _ (λ z. n (r.fault ∙ z)),
)

-- ---- writing and reading

pub write-leaves : {p : Params} {number : ℕ} {words old out : List ℕ} → WriteReturned p number words old 0 out → out ≡ text_of p.k number words
write-leaves {old = old} w = w.output ∙ kept-none _ old _ (sym w.fault)

-- "every job number 0 to 2^64 - 1 and every four words in width": what was written is read, in any book of the same k
pub write-reads : {p q : Params} {number : ℕ} {words old out old_number old_words new_number new_words : List ℕ} {r : ℕ}
    → WriteReturned p number words old 0 out → number < 2 ^ 64
    → ReadReturned q out old_number old_words r new_number new_words → q.k ≡ p.k
    → lens_fault q ≡ 0 → length old_number ≡ 1 → length old_words ≡ 4 → (r ≡ 0) × (new_number ≡ number ∷ []) × (new_words ≡ words)
write-reads {p} {q} {number} {words} {old} w h r e z one four =
    let t = write-leaves w ∙ ap (λ (k : ℕ). text_of k number words) (sym e) in
    read-accepts number words (rw t at r) z one four (rw (sym e) at (write-job p number words (length old) (sym w.fault) h))

-- what was read is written so, byte for byte
pub read-writes : {p : Params} {n : ℕ} {text old_number old_words words old out : List ℕ} {r : ℕ}
    → ReadReturned p text old_number old_words 0 (n ∷ []) words → WriteReturned p n words old r out → length old ≡ length text
    → (r ≡ 0) × (out ≡ text)
read-writes {p} {n} {text} {old_number} {old_words} {words} {old} a w e =
    let t = read-tells a in
    let v : n ≡ t.value = ap (λ (l : List ℕ). get_or l 0 0) t.single in
    let is : text ≡ text_of p.k n words = t.text_is ∙ ap (λ (x : ℕ). text_of p.k x words) (sym v) in
    let z = read-lens p text (length old_number) (length old_words) (sym a.fault) in
    let f = write-fault p n words (length old) z t.job.four t.job.narrow ∙ clear-length _ (length old) (e ∙ ap length is) in
    (w.fault ∙ f, w.output ∙ kept-none _ old _ f ∙ sym is)

-- two jobs that were written as one text are the same
pub written_once : {p : Params} {n m : ℕ} {v w old older out : List ℕ} → WriteReturned p n v old 0 out → WriteReturned p m w older 0 out
    → n < 2 ^ 64 → m < 2 ^ 64 → (n ≡ m) × (v ≡ w)
written_once {p} {n} {m} {v} {w} {old} {older} a b h i =
    let l = lens-clear p (write-lens p n v (length old) (sym a.fault)) in
    one-text p.k l.low l.high n v m w (write-job p n v (length old) (sym a.fault) h) (write-job p m w (length older) (sym b.fault) i)
    (sym (write-leaves a) ∙ write-leaves b)

-- the size that is told is the one to lend
pub size-writes : {p : Params} {number n : ℕ} {words old lent out : List ℕ} {r : ℕ}
    → SizeReturned p number words old 0 (n ∷ []) → WriteReturned p number words lent r out → length lent ≡ n → r ≡ 0
size-writes {p} {number} {n} {words} {old} {lent} s w e =
    let z = sym s.fault in
    let told : n ≡ length (text_of p.k number words) = ap (λ (l : List ℕ). get_or l 0 0) (s.output ∙ kept-none _ old _ z) in
    let f = size-words p words (length old) z in
    w.fault
    ∙ write-fault p number words (length lent) (size-lens p words (length old) z) (words-four p.k words f) (words-wide p.k words f)
    ∙ clear-length _ (length lent) (e ∙ told)
