-- Where each key first stands among the places that a Dup reaches, if it stands there, as a table of 64.
use Rattle.std.specs.Prelude.{ℕ, zero, suc, ◌+◌, ◌-◌, ◌≤◌, ◌<◌, ◌≡◌, refl, Bool, true, false, not, ◌||◌, List, [], ◌∷◌, ◌++◌, length, get_or, set, take, drop, replicate, eqb}
use Rattle.std.specs.Prelude.{Option, None, Some}
use Rattle.std.specs.Option.{is_some, option_eq}
use Rattle.std.proofs.Common.{sym, ◌∙◌, arith, length-set, length-take, drop_of_length-le, get_or-set_same, get_or-set_other, drop-cons, get_or-take, take-take, take-suc, eq-eqb, ne_eqb, eqb-true}
use Rattle.std.proofs.lemmas.List.{get_or-replicate}
use Rattle.std.proofs.lemmas.Bool.{eqb-false}
use Rattle.costs.specs.Choice.{◌if◌otherwise◌}
use Rattle.costs.specs.Laws.{or_left}
use Rattle.successors.specs.Parts.{has, some_below}
use Rattle.successors.specs.Successors.{reached, dup_serves, dominated}

-- the first place of a key in a list whose places count from i on
unfoldable pub place_from : ℕ → ℕ → List ℕ → Option ℕ
place_from i k [] = None
place_from i k (x ∷ xs) = Some i if eqb x k otherwise place_from (suc i) k xs

pub record Placed (table : List (Option ℕ)) (i : ℕ) (xs : List ℕ) : Type 0 where
  pub size : length table ≡ 64
  pub at : (k : ℕ) → k < 64 → get_or table k None ≡ place_from i k xs

pub placed_none : (i : ℕ) → Placed (replicate 64 None) i []
unfolding place_from
placed_none i = record { size = refl; at = λ k l. get_or-replicate 64 k None None l }

place_here : (i k : ℕ) (xs : List ℕ) → place_from i k (k ∷ xs) ≡ Some i
unfolding place_from
place_here i k xs = rw (eq-eqb k k refl)

place_on : (i k x : ℕ) (xs : List ℕ) → (x ≡ k → ⊥) → place_from i k (x ∷ xs) ≡ place_from (suc i) k xs
unfolding place_from
place_on i k x xs n = rw (ne_eqb x k n)

placed_more : (table : List (Option ℕ)) (xs : List ℕ) (i x : ℕ) → x < 64 → Placed table (suc i) xs → Placed (set table x (Some i)) i (x ∷ xs)
placed_more table xs i x l c = record { size = length-set table x (Some i) ∙ c.size; at = λ k m. go k m (eqb x k) refl }
  where
    go : (k : ℕ) → k < 64 → (b : Bool) → eqb x k ≡ b → get_or (set table x (Some i)) k None ≡ place_from i k (x ∷ xs)
    go k m true e =
        let q : k ≡ x = sym (eqb-true x k e) in
        let h : x < length table = omega (arith, c.size) in
        rw (q, get_or-set_same table x (Some i) None h) (sym (place_here i x xs))
    go k m false e =
        let q : x ≡ k → ⊥ = eqb-false x k e in
        rw (get_or-set_other table x k (Some i) None (λ p. q (sym p)), c.at k m) (sym (place_on i k x xs q))

-- a turn from the end
placed_turn : (table : List (Option ℕ)) (xs : List ℕ) (j x : ℕ) → j < length xs → x < 64 → x ≡ get_or xs j 0 → Placed table (suc j) (drop (suc j) xs) → Placed (set table x (Some j)) j (drop j xs)
placed_turn table xs j x l m e c = rw (drop-cons xs j 0 l, ← e) (placed_more table (drop (suc j) xs) j x m c)

pub placed_begin : (table : List (Option ℕ)) (xs : List ℕ) (n : ℕ) → n ≡ length xs → Placed table n [] → Placed table n (drop n xs)
placed_begin table xs n e c = let l : length xs ≤ n = omega arith in rw (drop_of_length-le xs l) c

-- ---- what the table tells

place_known : (i k : ℕ) (xs : List ℕ) → is_some (place_from i k xs) ≡ has k xs
unfolding place_from has
place_known i k [] = refl
place_known i k (x ∷ xs) = go (eqb x k) (place_known (suc i) k xs)
  where
    go : (b : Bool) → is_some (place_from (suc i) k xs) ≡ has k xs → is_some (Some i if b otherwise place_from (suc i) k xs) ≡ (b || has k xs)
    go true h = refl
    go false h = h

place_first : (i p : ℕ) (xs : List ℕ) → p < length xs → option_eq eqb (place_from i (get_or xs p 0) xs) (Some (i + p)) ≡ not (has (get_or xs p 0) (take p xs))
unfolding place_from has
place_first i p [] l = absurd (omega arith)
place_first i zero (x ∷ xs) l = rw (eq-eqb x x refl) (eq-eqb i (i + 0) (omega arith))
place_first i (suc p) (x ∷ xs) l = go (eqb x (get_or xs p 0)) (place_first (suc i) p xs (omega arith))
  where
    go : (b : Bool) → option_eq eqb (place_from (suc i) (get_or xs p 0) xs) (Some (suc i + p)) ≡ not (has (get_or xs p 0) (take p xs)) → option_eq eqb (Some i if b otherwise place_from (suc i) (get_or xs p 0) xs) (Some (i + suc p)) ≡ not (b || has (get_or xs p 0) (take p xs))
    go true h = ne_eqb i (i + suc p) (omega arith)
    go false h = let q : i + suc p ≡ suc i + p = omega arith in rw q h

-- the same for a window w and the reach of Dups
module _ (table : List (Option ℕ)) (w : List ℕ) (reach : ℕ) (c : Placed table 0 (take reach w)) (r : reach ≤ length w) where
  pub in_reach : (k : ℕ) → k < 64 → is_some (get_or table k None) ≡ has k (take reach w)
  in_reach k l = rw (c.at k l) (place_known 0 k (take reach w))

  pub first_here : (p : ℕ) → p < reach → get_or w p 0 < 64 → option_eq eqb (get_or table (get_or w p 0) None) (Some p) ≡ not (has (get_or w p 0) (take p w))
  first_here p l m =
      let b : p < length (take reach w) = omega (arith, length-take reach w) in
      let g : get_or (take reach w) p 0 ≡ get_or w p 0 = get_or-take reach w p 0 l in
      let t : take p (take reach w) ≡ take p w = take-take p reach w (omega arith) in
      let f = place_first 0 p (take reach w) b in
      let f' = rw (g, t) at f in
      let z : 0 + p ≡ p = omega arith in
      rw (c.at (get_or w p 0) m) (rw z at f')

-- a turn over the first places of a window
pub placed_on : (table : List (Option ℕ)) (w : List ℕ) (n i : ℕ) → n ≤ length w → 0 < i → i ≤ n → get_or w (i - 1) 0 < 64 → Placed table i (drop i (take n w)) → Placed (set table (get_or w (i - 1) 0) (Some (i - 1))) (i - 1) (drop (i - 1) (take n w))
placed_on table w n zero a p l m c = absurd (omega arith)
placed_on table w n (suc j) a p l m c =
    let b : j < length (take n w) = omega (arith, length-take n w) in
    let z : suc j - 1 ≡ j = omega arith in
    rw z (placed_turn table (take n w) j (get_or w j 0) b (rw z at m) (sym (get_or-take n w j 0 l)) c)

-- what no Dup reaches no Dup dominates
has_append : (k : ℕ) (xs : List ℕ) (y : ℕ) → has k (xs ++ (y ∷ [])) ≡ false → (has k xs ≡ false) × (eqb y k ≡ false)
unfolding has
has_append k [] y h = (refl, or_left (eqb y k) false h)
has_append k (x ∷ xs) y h = go (eqb x k) (has_append k xs y) h
  where
    go : (b : Bool) → (has k (xs ++ (y ∷ [])) ≡ false → (has k xs ≡ false) × (eqb y k ≡ false)) → (b || has k (xs ++ (y ∷ []))) ≡ false → ((b || has k xs) ≡ false) × (eqb y k ≡ false)
    go true ih e = absurd (let z : ◌≡◌ {A = ℕ} 0 1 = cc in omega arith)
    go false ih e = ih e

unreached : (prices w : List ℕ) (k n : ℕ) → n ≤ length w → has k (take n w) ≡ false → some_below (dup_serves prices w k) n ≡ false
unfolding some_below has dup_serves
unreached prices w k zero l h = refl
unreached prices w k (suc n) l h =
    let b : n < length w = omega arith in
    let s = rw (take-suc w n 0 b) at h in
    let a = has_append k (take n w) (get_or w n 0) s in
    rw (unreached prices w k n (omega arith) a.0, a.1)

pub alone : (prices w : List ℕ) (reach k : ℕ) → reach ≤ length w → reached w reach k ≡ false → dominated prices w reach k ≡ false
unfolding dominated reached
alone prices w reach k r e = unreached prices w k reach r e
