-- What the flush cost's parts mean: the common suffix is the longest, and the pops cost the pop price times their number.
use Prim.Native.Nat.{ℕ, zero, suc, ◌+◌, ◌-◌, ◌*◌, ◌<◌, ◌≤◌, min}
use Rattle.std.specs.Prelude.{Bool, List, [], ◌∷◌, refl, get_or, take, drop}
use Rattle.std.proofs.Math.Bool.{true, false}
use Rattle.std.proofs.Math.Path.{◌≡◌, sym}
use Rattle.std.proofs.Common.{ap, ap₂, ◌∙◌, zero-mul, suc-mul, eqb-true, eq-eqb, drop_of_length-le, drop-cons, drop-drop}
use native.Mathlib.Omega.{arith}
use Rattle.std.proofs.Math.ListN.{length}
use Rattle.std.proofs.Math.Dec.{eqb}
use Rattle.costs.specs.Choice.{◌if◌otherwise◌}
use Rattle.costs.specs.declared.Cost.{Cost}
use Rattle.costs.specs.declared.Step.TheVariants.{Pop}
use Rattle.std.specs.Prelude.{Some}
use Rattle.costs.specs.Cost.{plus, none}
use Rattle.costs.specs.Price.{price_of}
use Rattle.incumbent.specs.Flush.{bottom_at, same_from, common_suffix, with_pops, pops_cost, with_keys, flush_cost}

-- ---- the common suffix

-- the last k keys of a window
abbrev pub last_keys : ℕ → List ℕ → List ℕ
last_keys k w = drop (length w - k) w

-- k keys are the longest common suffix of two windows
pub record LongestCommon (a b : List ℕ) (k : ℕ) : Type 0 where
  pub in_first : k ≤ length a
  pub in_second : k ≤ length b
  pub same : last_keys k a ≡ last_keys k b
  pub longest : (j : ℕ) → j ≤ length a → j ≤ length b → last_keys j a ≡ last_keys j b → j ≤ k

by_if : (P : ℕ → Type 0) (b : Bool) (x y : ℕ) → (b ≡ true → P x) → (b ≡ false → P y) → P (x if b otherwise y)
by_if P true x y p q = p refl
by_if P false x y p q = q refl

one_more : (w : List ℕ) (k : ℕ) → k < length w → last_keys (suc k) w ≡ bottom_at w k ∷ last_keys k w
one_more w k l =
    let i : length w - suc k ≡ length w - 1 - k = omega arith in
    let n : suc (length w - suc k) ≡ length w - k = omega arith in
    drop-cons w (length w - suc k) 0 (omega arith) ∙ ap₂ (λ (m r : ℕ). get_or w m 0 ∷ drop r w) i n

part : (w : List ℕ) (i j : ℕ) → i ≤ j → j ≤ length w → drop (j - i) (last_keys j w) ≡ last_keys i w
part w i j l m = let n : length w - j + (j - i) ≡ length w - i = omega arith in drop-drop (j - i) (length w - j) w ∙ ap (λ (r : ℕ). drop r w) n

module _ (a b : List ℕ) where
  abbrev Same : ℕ → Type 0
  Same k = last_keys k a ≡ last_keys k b

  shorter : (i j : ℕ) → i ≤ j → j ≤ length a → j ≤ length b → Same j → Same i
  shorter i j l m n e = sym (part a i j l m) ∙ ap (drop (j - i)) e ∙ part b i j l n

  firsts : (k : ℕ) → k < length a → k < length b → Same (suc k) → bottom_at a k ≡ bottom_at b k
  firsts k l m e = ap (λ (w : List ℕ). get_or w 0 0) (sym (one_more a k l) ∙ e ∙ one_more b k m)

  more : (k : ℕ) → k < length a → k < length b → Same k → bottom_at a k ≡ bottom_at b k → Same (suc k)
  more k l m e f = one_more a k l ∙ ap₂ (λ (x : ℕ) (w : List ℕ). x ∷ w) f e ∙ sym (one_more b k m)

  -- k keys are the same; n more are looked at
  record Upto (n k r : ℕ) : Type 0 where
    most : r ≤ k + n
    same : Same r
    longest : (j : ℕ) → j ≤ k + n → Same j → j ≤ r

  upto : (n k : ℕ) → k + n ≤ length a → k + n ≤ length b → Same k → Upto n k (same_from n k a b)
  unfolding same_from
  upto zero k l m e = record { most = omega arith; same = e; longest = λ j h f. omega arith }
  upto (suc n) k l m e =
      by_if (Upto (suc n) k) (eqb (bottom_at a k) (bottom_at b k)) (same_from n (suc k) a b) k
      (λ t.
      let u = upto n (suc k) (omega arith) (omega arith) (more k (omega arith) (omega arith) e (eqb-true (bottom_at a k) (bottom_at b k) t)) in
      record { most = omega (arith, u.most); same = u.same; longest = λ j h f. u.longest j (omega arith) f })
      (λ t. record { most = omega arith; same = e; longest = λ j h f. at_most k j (omega arith) (omega arith) t f (omega arith) (omega arith) })
    where
      at_most : (k j : ℕ) → k < length a → k < length b → eqb (bottom_at a k) (bottom_at b k) ≡ false → Same j → j ≤ length a → j ≤ length b → j ≤ k
      at_most k j la lb t f p q = no_more (λ h. let z : true ≡ false = sym (eq-eqb _ _ (firsts k la lb (shorter (suc k) j h p q f))) ∙ t in let y : ◌≡◌ {A = ℕ} 0 1 = cc in omega arith)
        where
          no_more : (k < j → ⊥) → j ≤ k
          no_more h = omega (arith, h)

pub common_suffix_lem : (a b : List ℕ) → LongestCommon a b (common_suffix a b)
unfolding common_suffix
common_suffix_lem a b =
    let m : ℕ = min (length a) (length b) in
    let e : last_keys 0 a ≡ last_keys 0 b = no_keys a ∙ sym (no_keys b) in
    let u = upto a b m 0 (omega arith) (omega arith) e in
    record { in_first = omega (arith, u.most); in_second = omega (arith, u.most); same = u.same; longest = λ j p q f. u.longest j (omega arith) f }
  where
    no_keys : (w : List ℕ) → last_keys 0 w ≡ []
    no_keys w = drop_of_length-le w {i = length w - 0} (omega arith)

-- ---- the pops

-- a cost so many times, stopped at the greatest u32
abbrev pub times : ℕ → Cost → Cost
times n c = record { gas = min (n * c.gas) 4294967295; bytes = min (n * c.bytes) 4294967295 }

abbrev cost : ℕ → ℕ → Cost
cost x y = record { gas = x; bytes = y }

-- so many pops onto a sum of two u32 numbers
with_pops_lem : (prices : List ℕ) (n : ℕ) (sum : Cost) → sum.gas ≤ 4294967295 → sum.bytes ≤ 4294967295 →
    with_pops prices n sum ≡ cost (min (sum.gas + n * (price_of prices (Some Pop)).gas) 4294967295) (min (sum.bytes + n * (price_of prices (Some Pop)).bytes) 4294967295)
unfolding with_pops plus
with_pops_lem prices zero sum g h =
    let p : Cost = price_of prices (Some Pop) in
    let x : sum.gas ≡ min (sum.gas + 0 * p.gas) 4294967295 = omega (arith, zero-mul p.gas) in
    let y : sum.bytes ≡ min (sum.bytes + 0 * p.bytes) 4294967295 = omega (arith, zero-mul p.bytes) in
    ap₂ cost x y
with_pops_lem prices (suc n) sum g h =
    let p : Cost = price_of prices (Some Pop) in
    let x : min (min (sum.gas + p.gas) 4294967295 + n * p.gas) 4294967295 ≡ min (sum.gas + suc n * p.gas) 4294967295 = omega (arith, suc-mul n p.gas) in
    let y : min (min (sum.bytes + p.bytes) 4294967295 + n * p.bytes) 4294967295 ≡ min (sum.bytes + suc n * p.bytes) 4294967295 = omega (arith, suc-mul n p.bytes) in
    with_pops_lem prices n (plus sum p) (omega arith) (omega arith) ∙ ap₂ cost x y

-- so many pops cost the price of one that many times
pub pops_product : (prices : List ℕ) (n : ℕ) → pops_cost prices n ≡ times n (price_of prices (Some Pop))
pops_product prices n =
    let p : Cost = price_of prices (Some Pop) in
    let x : min (0 + n * p.gas) 4294967295 ≡ min (n * p.gas) 4294967295 = omega arith in
    let y : min (0 + n * p.bytes) 4294967295 ≡ min (n * p.bytes) 4294967295 = omega arith in
    with_pops_lem prices n none (omega arith) (omega arith) ∙ ap₂ cost x y

-- the flush cost, with its pops as a product (document 01, "The flush cost is")
pub flush_product : (prices start goal : List ℕ) →
    flush_cost prices start goal ≡ with_keys prices (times (length start - common_suffix start goal) (price_of prices (Some Pop))) (take (length goal - common_suffix start goal) goal)
unfolding flush_cost
flush_product prices start goal =
    ap (λ (c : Cost). with_keys prices c (take (length goal - common_suffix start goal) goal)) (pops_product prices (length start - common_suffix start goal))
