-- Bytes that stand at a position of other bytes, and what is read there. Assumes nothing.
use mathlib.Core.Path.{◌≡◌, refl, sym, ap, ap₂, ◌∙◌}
use Prim.Native.Nat.{ℕ, ◌+◌, ◌^◌, ◌≤◌, ◌<◌}
use native.Mathlib.Omega.{arith}
use mathlib.Core.List.{List, [], ◌∷◌, ◌++◌, append_assoc, append-nil}
use lib.ListN.{length, get_or, take, drop, length-append}
use lib.Seq.{take_at, drop_at, get_or_at}
use Rattle.records.specs.Num.{part, le_num, le_at, le_bytes}
use Rattle.records.specs.Layout.{body_at, record_size}
use Rattle.records.specs.Record.{len_at, kind_at, Frame}
use Rattle.records.proofs.Num.{length-le_bytes, le_num-le_bytes}
use Rattle.writer.specs.Bytes.{record_bytes}

pub record Holds (bs : List ℕ) (at : ℕ) (xs : List ℕ) : Type 0 where
  pub pre : List ℕ
  pub post : List ℕ
  pub whole : bs ≡ pre ++ (xs ++ post)
  pub place : length pre ≡ at

pub holds-all : (bs : List ℕ) → Holds bs 0 bs
holds-all bs = record { pre = []; post = []; whole = sym (append-nil bs); place = refl }

module _ {bs : List ℕ} {at : ℕ} where
  pub left : (xs ys : List ℕ) → Holds bs at (xs ++ ys) → Holds bs at xs
  left xs ys h =
      record {
        pre = h.pre;
        post = ys ++ h.post;
        whole = h.whole ∙ ap (λ (l : List ℕ). h.pre ++ l) (append_assoc xs ys h.post);
        place =
            h.place;
      }

  pub right : (xs ys : List ℕ) → Holds bs at (xs ++ ys) → Holds bs (at + length xs) ys
  right xs ys h =
      record {
        pre = h.pre ++ xs;
        post = h.post;
        whole = h.whole ∙ ap (λ (l : List ℕ). h.pre ++ l) (append_assoc xs ys h.post) ∙ sym (append_assoc h.pre xs (ys ++ h.post));
        place = length-append h.pre xs ∙ ap (λ (n : ℕ). n + length xs) h.place;
      }

  pub tail : {x : ℕ} {xs : List ℕ} → Holds bs at (x ∷ xs) → Holds bs (at + 1) xs
  tail {x} {xs} h = right (x ∷ []) xs h

  pub head : {x : ℕ} {xs : List ℕ} → Holds bs at (x ∷ xs) → get_or bs at 0 ≡ x
  head {x} {xs} h = ap (λ (l : List ℕ). get_or l at 0) h.whole ∙ get_or_at h.pre x (xs ++ h.post) 0 at h.place

  pub part-is : {xs : List ℕ} → Holds bs at xs → part at (length xs) bs ≡ xs
  unfolding part
  part-is {xs} h =
      ap (λ (l : List ℕ). take (length xs) (drop at l)) h.whole
      ∙ ap (take (length xs)) (drop_at h.pre (xs ++ h.post) at h.place) ∙ take_at xs h.post (length xs) refl

  pub within : {xs : List ℕ} → Holds bs at xs → at + length xs ≤ length bs
  within {xs} h =
      let l = ap length h.whole ∙ length-append h.pre (xs ++ h.post) ∙ ap (λ (n : ℕ). length h.pre + n) (length-append xs h.post) in
      omega (arith, l, h.place)

  pub num-is : (w x : ℕ) → x < 256 ^ w → Holds bs at (le_bytes w x) → le_at w bs at ≡ x
  unfolding le_at
  num-is w x l h =
      let e : part at w bs ≡ le_bytes w x = rw (length-le_bytes w x) at (part-is h) in
      ap le_num e ∙ le_num-le_bytes w x l

pub move : {bs xs : List ℕ} (a b : ℕ) → a ≡ b → Holds bs a xs → Holds bs b xs
move a b e h = rw e at h

-- ---- a record

module _ (bs : List ℕ) (at kind : ℕ) (body : List ℕ) (k : kind < 256 ^ 2) (l : 2 + length body < 256 ^ 4) (h : Holds bs at (record_bytes kind body))
  where
    pub rec-rest : Holds bs (at + 4) (le_bytes 2 kind ++ body)
    unfolding record_bytes
    rec-rest = move _ (at + 4) (ap (λ (n : ℕ). at + n) (length-le_bytes 4 (2 + length body)))
        (right (le_bytes 4 (2 + length body)) (le_bytes 2 kind ++ body) h)

    pub rec-body : Holds bs (body_at at) body
    rec-body =
        move _ (body_at at) (omega (arith, length-le_bytes 2 kind)) (right (le_bytes 2 kind) body rec-rest)

    pub rec-frame : Frame bs kind (2 + length body) at
    unfolding record_bytes kind_at len_at record_size
    rec-frame =
        record {
          kind_is = num-is 2 kind k (left (le_bytes 2 kind) body rec-rest);
          len_is = num-is 4 (2 + length body) l (left (le_bytes 4 (2 + length body)) (le_bytes 2 kind ++ body) h);
          within = omega (arith, within rec-body);
        }

-- the bytes of a record
pub record-length : (kind : ℕ) (body : List ℕ) → length (record_bytes kind body) ≡ record_size (2 + length body)
unfolding record_bytes record_size
record-length kind body =
    length-append (le_bytes 4 (2 + length body)) (le_bytes 2 kind ++ body)
    ∙ ap₂ ◌+◌ (length-le_bytes 4 (2 + length body)) (length-append (le_bytes 2 kind) body ∙ ap (λ (n : ℕ). n + length body) (length-le_bytes 2 kind))
