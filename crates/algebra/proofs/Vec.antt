-- Vectors: lists whose length is part of their type. Assumes nothing.
use mathlib.Core.Path.{◌≡◌, refl, ap, ap₂}
use Prim.Native.Nat.{ℕ, zero, suc}

pub data Vec (A : Type 0) : ℕ → Type 0 where
  nil : Vec A zero
  cons : {n : ℕ} → A → Vec A n → Vec A (suc n)

abbrev pub vhead : {A : Type 0} {n : ℕ} → Vec A (suc n) → A
vhead (cons a u) = a

abbrev pub vtail : {A : Type 0} {n : ℕ} → Vec A (suc n) → Vec A n
vtail (cons a u) = u

abbrev pub vmap : {A B : Type 0} {n : ℕ} → (A → B) → Vec A n → Vec B n
vmap f nil = nil
vmap f (cons a u) = cons (f a) (vmap f u)

abbrev pub vzip : {A B C : Type 0} {n : ℕ} → (A → B → C) → Vec A n → Vec B n → Vec C n
vzip f nil nil = nil
vzip f (cons a u) (cons b v) = cons (f a b) (vzip f u v)

-- x pushed in at the front, and what falls out at the end
abbrev pub push : {A : Type 0} {n : ℕ} → A → Vec A n → Vec A n
push x nil = nil
push x (cons a u) = cons x (push a u)

abbrev pub last : {A : Type 0} {n : ℕ} → A → Vec A n → A
last x nil = x
last x (cons a u) = last a u

pub map_push : {A B : Type 0} {n : ℕ} (f : A → B) (x : A) (u : Vec A n) → vmap f (push x u) ≡ push (f x) (vmap f u)
map_push f x nil = refl
map_push f x (cons a u) = ap (cons (f x)) (map_push f a u)

pub map_last : {A B : Type 0} {n : ℕ} (f : A → B) (x : A) (u : Vec A n) → f (last x u) ≡ last (f x) (vmap f u)
map_last f x nil = refl
map_last f x (cons a u) = map_last f a u

pub map-map : {A B C : Type 0} (f : B → C) (g : A → B) (h : A → C) → ((x : A) → f (g x) ≡ h x) → {n : ℕ} (u : Vec A n)
    → vmap f (vmap g u) ≡ vmap h u
map-map f g h e nil = refl
map-map f g h e (cons a u) = ap₂ cons (e a) (map-map f g h e u)

pub map-id : {A : Type 0} (f : A → A) → ((x : A) → f x ≡ x) → {n : ℕ} (u : Vec A n) → vmap f u ≡ u
map-id f e nil = refl
map-id f e (cons a u) = ap₂ cons (e a) (map-id f e u)

pub zip-map : {A B C D : Type 0} (f : A → C → D) (g : B → C) {n : ℕ} (u : Vec A n) (v : Vec B n) → vzip f u (vmap g v) ≡ vzip (λ x y. f x (g y)) u v
zip-map f g nil nil = refl
zip-map f g (cons a u) (cons b v) = ap (cons (f a (g b))) (zip-map f g u v)
