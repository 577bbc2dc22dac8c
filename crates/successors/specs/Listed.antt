-- The steps listed so far, and the laws that the loops go by.
use Rattle.std.specs.Prelude.{ℕ, zero, suc, ◌+◌, ◌-◌, ◌≤◌, ◌<◌, ◌≡◌, refl, true, false, List, [], ◌∷◌, ◌++◌, Option, length, get_or, take}
use Rattle.std.proofs.Common.{ap, sym, ◌∙◌, append_assoc, append-nil, arith, length-append, take-suc}
use Rattle.std.proofs.Math.Seq.{take-length}
use Rattle.std.specs.Option.{option_to_list}
use Rattle.costs.specs.declared.Step.{Step}
use Rattle.replay.specs.Machine.{room}
use Rattle.successors.specs.Parts.{up_to, each, up_to_turn}
use Rattle.successors.specs.Successors.{grown}

-- ---- lists made number by number

each_append {ℓ} : {A : Type ℓ} (f : ℕ → List A) (xs ys : List ℕ) → each f (xs ++ ys) ≡ each f xs ++ each f ys
unfolding each
each_append f [] ys = refl
each_append f (x ∷ xs) ys = rw (each_append f xs ys, append_assoc (f x) (each f xs) (each f ys))

each_one {ℓ} : {A : Type ℓ} (f : ℕ → List A) (x : ℕ) → each f (x ∷ []) ≡ f x
unfolding each
each_one f x = append-nil (f x)

each_take {ℓ} : {A : Type ℓ} (f : ℕ → List A) (ks : List ℕ) (n : ℕ) → n ≤ length ks → each f (take n ks) ≡ up_to (λ i. f (get_or ks i 0)) n
unfolding up_to each
each_take f ks zero h = refl
each_take f ks (suc n) h =
    let b : n < length ks = omega arith in
    let c : n ≤ length ks = omega arith in
    rw (take-suc ks n 0 b, each_append f (take n ks) (get_or ks n 0 ∷ []), each_take f ks n c, each_one f (get_or ks n 0))

pub each_up_to {ℓ} : {A : Type ℓ} (f : ℕ → List A) (ks : List ℕ) → up_to (λ i. f (get_or ks i 0)) (length ks) ≡ each f ks
each_up_to f ks = sym (each_take f ks (length ks) (omega arith)) ∙ ap (each f) (take-length ks)

up_to_grows {ℓ} : {A : Type ℓ} (f : ℕ → List A) (d e : ℕ) → length (up_to f d) ≤ length (up_to f (e + d))
unfolding up_to
up_to_grows f d zero = let z : 0 + d ≡ d = omega arith in rw z (omega arith)
up_to_grows f d (suc e) =
    let s : suc e + d ≡ suc (e + d) = omega arith in
    rw s (omega (arith, length-append (up_to f (e + d)) (f (e + d)), up_to_grows f d e))

-- ---- the steps in a list of 50 places

-- a list of at most 50 has room for the steps ss behind those it has
abbrev pub Roomy : List Step → List Step → Type 0
Roomy list ss = length list + length ss ≤ 50

-- room for the first of three parts, the second and the third, and the list with all of them
module _ (o xs ys zs : List Step) (h : Roomy o (xs ++ (ys ++ zs))) where
  pub room_first : Roomy o xs
  room_first = omega (arith, length-append xs (ys ++ zs))

  module _ (a : List Step) (ha : a ≡ o ++ xs) where
    pub room_second : Roomy a ys
    room_second = omega (arith, ap length ha, length-append o xs, length-append xs (ys ++ zs), length-append ys zs)

    module _ (b : List Step) (hb : b ≡ a ++ ys) where
      pub room_third : Roomy b zs
      room_third = omega (arith, ap length hb, length-append a ys, ap length ha, length-append o xs, length-append xs (ys ++ zs), length-append ys zs)

      pub all_three : (e : List Step) → e ≡ b ++ zs → e ≡ o ++ (xs ++ (ys ++ zs))
      all_three e he = he ∙ rw (hb, ha, append_assoc (o ++ xs) ys zs, append_assoc o xs (ys ++ zs)) refl

-- ---- a loop that adds what f gives, number by number

-- each call below the limit may be made, and gives what f does
abbrev pub Gives : (pre : ℕ → Type 0) (post : ℕ → Option Step → Type 0) (limit : ℕ) (f : ℕ → List Step) → Type 0
Gives pre post limit f = (i : ℕ) → i < limit → pre i × ((r : Option Step) → post i r → option_to_list r ≡ f i)

pub loop_added : (list : List Step) (f : ℕ → List Step) (n : ℕ) → (list ++ up_to f n) ++ f n ≡ list ++ up_to f (n + 1)
loop_added list f n = append_assoc list (up_to f n) (f n) ∙ ap (λ l. list ++ l) (sym (up_to_turn f n))

-- the room for the next step
pub loop_room : (list : List Step) (f : ℕ → List Step) (d limit : ℕ) → d < limit → Roomy list (up_to f limit) → Roomy (list ++ up_to f d) (f d)
unfolding up_to
loop_room list f d limit l h =
    let q : limit ≡ limit - suc d + suc d = omega arith in
    let g = up_to_grows f (suc d) (limit - suc d) in
    let k = ap (λ n. length (up_to f n)) q in
    omega (arith, length-append (up_to f d) (f d), length-append list (up_to f d))

-- ---- the parts that grow the window

pub grown_yes : (max_len n : ℕ) (ss : List Step) → room max_len n ≡ true → grown max_len n ss ≡ ss
grown_yes max_len n ss t = rw t

pub grown_no : (max_len n : ℕ) (ss : List Step) → room max_len n ≡ false → grown max_len n ss ≡ []
grown_no max_len n ss t = rw t
