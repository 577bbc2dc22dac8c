-- The walk as the code goes it: the steps left are a first part of the steps, the keys left a first part of the popped keys.
use Prim.Native.Nat.{ℕ, suc, ◌-◌, ◌≤◌}
use Rattle.std.specs.Prelude.{◌&&◌, List, [], ◌∷◌, ◌++◌, reverse, ◌≡◌, get_or, take, drop}
use Rattle.std.proofs.lemmas.List.{reverse-append, length-reverse}
use Rattle.std.specs.Prelude.{Option, None, Some}
use Rattle.std.proofs.Math.Path.{refl, ap}
use Rattle.std.proofs.Common.{sym, ◌∙◌, length-drop, take-suc}
use native.Mathlib.Omega.{arith}
use Rattle.std.proofs.Math.Dec.{eqb}
use Rattle.std.proofs.Math.ListN.{length}
use Rattle.std.proofs.Math.Seq.{take-length}
use Rattle.costs.specs.Choice.{◌if◌otherwise◌}
use Rattle.costs.specs.Step.{decoded}
use Rattle.costs.specs.declared.Step.{Step}
use Rattle.window.specs.declared.PackedState.{PackedState}
use Rattle.window.specs.State.{Held}
use Rattle.window.specs.Keys.{keys_of, Window, keys_length, held_keys, held_window}
use Rattle.replay.specs.Machine.{Rules, allows, room}
use Rattle.rewind.specs.Held.{back_of}
use Rattle.rewind.specs.declared.back.Back.{Back}
use Rattle.rewind.specs.Walk.{Place, place, put_by, regrown, ungrown, back_on, then, walked_back, all_back, start_of, start_before}

-- ---- back over a Pop

-- a list with a key is those before its last and that one
pub with_last : (l : List ℕ) → 1 ≤ length l → take (length l - 1) l ++ get_or l (length l - 1) 0 ∷ [] ≡ l
with_last l h =
    sym (take-suc l (length l - 1) 0 (omega arith)) ∙ ap (λ (n : ℕ). take n l) {x = suc (length l - 1)} {y = length l} (omega arith) ∙ take-length l

pub regrown_last : (max_len : ℕ) (w left : List ℕ) (k : ℕ) → regrown max_len w (reverse (left ++ k ∷ [])) ≡ (Some (place (k ∷ w) (reverse left)) if room max_len (length w) otherwise None)
regrown_last max_len w left k = ap (regrown max_len w) (reverse-append left (k ∷ []))

-- ---- back over a step that put a key

pub ungrown_none : (q : Rules) (s : Step) (w left : List ℕ) → length w ≡ 0 → ungrown q s w left ≡ None
ungrown_none q s [] left e = refl
ungrown_none q s (k ∷ w) left e = absurd (omega arith)

pub ungrown_some : (q : Rules) (s : Step) (w left : List ℕ) → (length w ≡ 0 → ⊥) →
    ungrown q s w left ≡ (Some (place (drop 1 w) left) if allows q s (length w - 1) && eqb (put_by s (drop 1 w)) (get_or w 0 0) otherwise None)
ungrown_some q s [] left p = absurd (p refl)
ungrown_some q s (k ∷ w) left p = let e : suc (length w) - 1 ≡ length w = omega arith in rw e

-- a state whose top key was taken off
pub record Below (state below : PackedState) : Type 0 where
  pub held : Window below
  pub keys : keys_of below ≡ drop 1 (keys_of state)
  pub len : length (keys_of below) ≡ length (keys_of state) - 1

pub below_of : (state below : PackedState) → Held 6 below (drop 1 (keys_of state)) → Below state below
below_of state below h =
    let n : length (drop 1 (keys_of state)) ≤ 21 = omega (arith, length-drop 1 (keys_of state), keys_length state) in
    let k = held_keys below (drop 1 (keys_of state)) h n in
    record { held = held_window below (drop 1 (keys_of state)) h n; keys = k; len = ap length k ∙ length-drop 1 (keys_of state) }

-- ---- the steps left

then_some : (o : Option Place) → then (λ a. Some a) o ≡ o
then_some None = refl
then_some (Some a) = refl

then_then : (f g : Place → Option Place) (o : Option Place) → then f (then g o) ≡ then (λ a. then f (g a)) o
then_then f g None = refl
then_then f g (Some a) = refl

walked_last : (q : Rules) (xs : List ℕ) (c : ℕ) (a : Place) → walked_back q (xs ++ (c ∷ [])) a ≡ then (walked_back q xs) (back_on q (decoded c) a)
unfolding walked_back
walked_last q [] c a = sym (then_some (back_on q (decoded c) a))
walked_last q (x ∷ xs) c a =
    ap (then (back_on q (decoded x))) (walked_last q xs c a) ∙ then_then (back_on q (decoded x)) (walked_back q xs) (back_on q (decoded c) a)

-- the walk so far: the steps that are left decide
pub record Walking (q : Rules) (steps popped end : List ℕ) (b : Back) (rest : List ℕ) : Type 0 where
  pub same : start_before q end steps popped ≡ start_of (walked_back q rest (back_of b))

module _ (q : Rules) (steps : List ℕ) where
  pub walking_first : (b : Back) → Walking q steps b.left.now (keys_of b.state) b steps
  unfolding start_before
  walking_first b = record { same = refl }

  module _ (popped end : List ℕ) (b : Back) (rest front : List ℕ) (c : ℕ) (w : Walking q steps popped end b rest) (e : rest ≡ front ++ c ∷ []) where
    pub walking_turn : (o : Option Place) → o ≡ back_on q (decoded c) (back_of b) → start_before q end steps popped ≡ start_of (then (walked_back q front) o)
    walking_turn o k =
        w.same ∙ ap start_of (ap (λ (l : List ℕ). walked_back q l (back_of b)) e ∙ walked_last q front c (back_of b) ∙ ap (then (walked_back q front)) (sym k))

    pub walking_next : (t : Back) → Some (back_of t) ≡ back_on q (decoded c) (back_of b) → Walking q steps popped end t front
    walking_next t k = record { same = walking_turn (Some (back_of t)) k }

  -- at the first step every popped key must be put back
  pub walking_last : (popped end : List ℕ) (b : Back) (rest : List ℕ) → Walking q steps popped end b rest → rest ≡ [] → start_before q end steps popped ≡ all_back (keys_of b.state) (reverse b.left.now)
  unfolding walked_back
  walking_last popped end b rest w e = w.same ∙ ap (λ (l : List ℕ). start_of (walked_back q l (back_of b))) e

-- none is left of no keys, and of some
pub none_left : (w left : List ℕ) → length left ≡ 0 → all_back w (reverse left) ≡ Some w
none_left w [] e = refl
none_left w (k ∷ ks) e = absurd (omega arith)

pub some_left : (w left : List ℕ) → (length left ≡ 0 → ⊥) → all_back w (reverse left) ≡ None
some_left w left n = go (reverse left) (length-reverse left)
  where
    go : (r : List ℕ) → length r ≡ length left → all_back w r ≡ None
    go [] e = absurd (n (sym e))
    go (x ∷ xs) e = refl
