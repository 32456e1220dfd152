-- What a turn of reading and of writing moves stands after what was moved before. Assumes nothing.
use Rattle.std.proofs.Common.{◌≡◌, ℕ, ◌+◌, ◌-◌, ◌≤◌, List, [], ◌++◌, Option, append-nil, append_assoc, take-append-drop, length, take, drop, sym, ap, ◌∙◌, subst, le_refl, drop_at, length-take-le}
use Rattle.std.proofs.Math.Seq.{take-add}
use Rattle.std.proofs.lemmas.List.{take_rest, take-append-le}
use Rattle.std.proofs.lemmas.Slice.{take-put_mid_below}
use Rattle.std.specs.Io.KnownBytes.{Appends, Consumes}
use Rattle.std.proofs.KnownBytes.{Appends-trans, Consumes-trans}
use Rattle.streams.specs.Moved.{AppendsStart}
use borrow.Rule.Slice.PartMut.{put_mid, post_of}

-- a text of which n bytes were written, and m more from there
pub written-more : (a b c : Option (List ℕ)) (text : List ℕ) (n m : ℕ) → Appends a b (take n text)
    → Appends b c (take m (take (length text - n) (drop n text))) → Appends a c (take (n + m) text)
written-more a b c text n m p q =
    let rest : take n text ++ take m (take (length text - n) (drop n text)) ≡ take (n + m) text =
    ap (λ t. take n text ++ take m t) (take_rest text n) ∙ sym (take-add n m text) in
    subst (Appends a c) rest (Appends-trans a b c _ _ p q)

-- a space whose part from n on holds what was read there
part_put : (n k m : ℕ) (space part : List ℕ) → n ≤ length space → m ≤ length part → take m (drop n (put_mid n k space part)) ≡ take m part
part_put n k m space part within fits =
    let after = post_of n k space in
    ap (take m) (drop_at (take n space) (part ++ after) n (length-take-le n space within)) ∙ take-append-le m part after fits

pub read-more : (a b c : Option (List ℕ)) (space part : List ℕ) (n m k : ℕ) → n ≤ length space → m ≤ length part → Consumes a b (take n space)
    → Consumes b c (take m part) → Consumes a c (take (n + m) (put_mid n k space part))
read-more a b c space part n m k within fits p q =
    let new = put_mid n k space part in
    let front : take n new ≡ take n space = take-put_mid_below n k space part n (le_refl n) within in
    let all : take n space ++ take m part ≡ take (n + m) new =
    ap (λ t. t ++ take m part) (sym front) ∙ ap (λ t. take n new ++ t) (sym (part_put n k m space part within fits)) ∙ sym (take-add n m new) in
    subst (Consumes a c) all (Consumes-trans a b c _ _ p q)

-- ---- a beginning of a text

-- the first n bytes
pub start-take : (a b : Option (List ℕ)) (text : List ℕ) (n : ℕ) → Appends a b (take n text) → AppendsStart a b text
start-take a b text n p = (take n text, drop n text, sym (take-append-drop n text), p)

pub start-whole : (a b : Option (List ℕ)) (text : List ℕ) → Appends a b text → AppendsStart a b text
start-whole a b text p = (text, [], sym (append-nil text), p)

-- a beginning of a part, after all that stands before it
pub start-part : (a b c : Option (List ℕ)) (before part after all : List ℕ) → all ≡ before ++ (part ++ after) → Appends a b before
    → AppendsStart b c part → AppendsStart a c all
start-part a b c before part after all e p q =
    let s : all ≡ (before ++ q.0) ++ (q.1 ++ after) =
    e ∙ ap (λ t. before ++ (t ++ after)) q.2 ∙ ap (λ t. before ++ t) (append_assoc q.0 q.1 after) ∙ sym (append_assoc before q.0 (q.1 ++ after)) in
    (before ++ q.0, q.1 ++ after, s, Appends-trans a b c _ _ p q.3)
