-- What is written are bytes, each below 256: of a file (`file-bytes`), and of a bundle whose allowance is one byte (`bundle-bytes`). Assumes nothing.
use Prim.Native.Nat.{ℕ, zero, suc, ◌+◌, ◌%◌, ◌/◌, ◌^◌, ◌≤◌, ◌<◌}
use native.Mathlib.Nat.{mod-lt, pow-le-pow_right}
use native.Mathlib.Omega.{arith}
use mathlib.Core.List.{List, [], ◌∷◌, ◌++◌}
use lib.ListN.{length}
use lib.Dec.{lit<}
use Rattle.records.specs.Num.{Bytes, le_bytes}
use Rattle.records.specs.Layout.{head_kind, word_size, job_kind, order_kind}
use Rattle.records.specs.declared.Heading.{Heading}
use Rattle.bundle.specs.Contents.{Job, File, Bundle}
use Rattle.bundle.proofs.Headings.{ok-ranges}
use Rattle.writer.specs.Bytes.{record_bytes, heading_body, heading_bytes, words_bytes, job_body, job_bytes, jobs_bytes, file_bytes, files_bytes}
use Rattle.writer.specs.Bytes.{order_bytes, bundle_bytes}
use Rattle.writer.specs.Fits.{FileFits, Chain, next, BundleFits}

cons-bytes : (x : ℕ) (xs : List ℕ) → x < 256 → Bytes xs → Bytes (x ∷ xs)
cons-bytes x xs l b zero = l
cons-bytes x xs l b (suc i) = b i

append-bytes : (xs ys : List ℕ) → Bytes xs → Bytes ys → Bytes (xs ++ ys)
append-bytes [] ys a b i = b i
append-bytes (x ∷ xs) ys a b zero = a 0
append-bytes (x ∷ xs) ys a b (suc i) = append-bytes xs ys (λ j. a (suc j)) b i

number-bytes : (w x : ℕ) → Bytes (le_bytes w x)
unfolding le_bytes
number-bytes zero x = λ i. lit< tt
number-bytes (suc w) x = cons-bytes (x % 256) (le_bytes w (x / 256)) (mod-lt x (lit< tt)) (number-bytes w (x / 256))

record-bytes : (kind : ℕ) (body : List ℕ) → Bytes body → Bytes (record_bytes kind body)
unfolding record_bytes
record-bytes kind body b =
    append-bytes (le_bytes 4 (2 + length body)) (le_bytes 2 kind ++ body) (number-bytes 4 (2 + length body))
    (append-bytes (le_bytes 2 kind) body (number-bytes 2 kind) b)

word_bytes : (w : ℕ) (ws : List ℕ) → Bytes (words_bytes w ws)
unfolding words_bytes
word_bytes w [] = λ i. lit< tt
word_bytes w (x ∷ ws) = append-bytes (le_bytes w x) (words_bytes w ws) (number-bytes w x) (word_bytes w ws)

jobs-bytes : (h : Heading) (js : List Job) → Bytes (jobs_bytes h js)
unfolding jobs_bytes job_bytes job_body
jobs-bytes h [] = λ i. lit< tt
jobs-bytes h (j ∷ js) =
    append-bytes (job_bytes h j) (jobs_bytes h js)
    (record-bytes job_kind (job_body h j)
    (append-bytes (le_bytes 8 j.num) (words_bytes (word_size h) j.words) (number-bytes 8 j.num) (word_bytes (word_size h) j.words)))
    (jobs-bytes h js)

pub file-bytes : (f : File) → FileFits f → Bytes (file_bytes f)
unfolding file_bytes heading_bytes heading_body
file-bytes f w =
    let h = f.heading in
    let p = h.params in
    let r = (ok-ranges h w.ranges).book in
    let few : 2 ^ p.d ≤ 2 ^ 6 = pow-le-pow_right {n = 2} (lit< tt) r.d-high in
    let n-small : p.n < 64 = omega (arith, r.n-high) in
    let x₁ = le_bytes 8 h.archive ++ le_bytes 4 h.jobs in
    let x₂ = h.holder ∷ x₁ in
    let x₃ = p.t ∷ x₂ in
    let x₄ = p.n ∷ x₃ in
    let b₁ = append-bytes (le_bytes 8 h.archive) (le_bytes 4 h.jobs) (number-bytes 8 h.archive) (number-bytes 4 h.jobs) in
    let b₂ = cons-bytes h.holder x₁ (omega (arith, w.high)) b₁ in
    let b₃ = cons-bytes p.t x₂ (omega (arith, r.t-high)) b₂ in
    let b₄ = cons-bytes p.n x₃ (omega arith) b₃ in
    let b₅ = cons-bytes p.d x₄ (omega (arith, r.d-high)) b₄ in
    append-bytes (heading_bytes h) (jobs_bytes h f.jobs)
    (record-bytes (head_kind h) (heading_body h) (cons-bytes p.k (p.d ∷ x₄) (omega (arith, r.k-high)) b₅))
    (jobs-bytes h f.jobs)

files-bytes : {h : Heading} {ns : List ℕ} {prev : ℕ} (fs : List File) → Chain h ns prev fs → Bytes (files_bytes fs)
unfolding files_bytes
files-bytes [] c = λ i. lit< tt
files-bytes (f ∷ fs) (next w l s n c) = append-bytes (file_bytes f) (files_bytes fs) (file-bytes f w) (files-bytes fs c)

pub bundle-bytes : (b : Bundle) → BundleFits b.files → b.allowance < 256 → Bytes (bundle_bytes b)
unfolding bundle_bytes order_bytes
bundle-bytes b w l =
    append-bytes (order_bytes b.allowance) (files_bytes b.files)
    (record-bytes order_kind (b.allowance ∷ []) (cons-bytes b.allowance [] l (λ i. lit< tt))) (all b.files w)
  where
    all : (fs : List File) → BundleFits fs → Bytes (files_bytes fs)
    all [] x = absurd x
    all (f ∷ fs) x = files-bytes (f ∷ fs) x
