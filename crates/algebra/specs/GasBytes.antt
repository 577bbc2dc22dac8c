-- The costs of crate costs as the abstract search has them: by gas, then bytes, with sums that stop at the greatest u32.
use Rattle.std.specs.Prelude.{ℕ, suc, ◌*◌, ◌≤◌, ◌<◌, max, ◌≡◌, refl, Bool, true, false, not, ◌&&◌, ◌||◌, eqb, ltb, leb}
use Rattle.std.proofs.Common.{arith, eqb-true, le-leb, ltb-true, ltb-false}
use Rattle.std.proofs.lemmas.Bool.{eqb-false, lt-leb}
use Rattle.costs.specs.Choice.{◌if◌otherwise◌}
use Rattle.costs.specs.Cost.{none, plus, no_more}
use Rattle.costs.specs.declared.Cost.{Cost}
use Rattle.astar.specs.Cost.{CostAlgebra, lex}
use Rattle.astar.specs.Pairs.{top, sat, sat_is, numbers, number_then, renamed}

abbrev pub gas_bytes : CostAlgebra
gas_bytes =
    renamed (number_then numbers) Cost (λ c. (c.gas, c.bytes)) (λ p. record { gas = p.0; bytes = p.1 }) (λ c. refl) (λ d. refl)

-- in full
pub compared : (a b : Cost) → gas_bytes.le a b ≡ lex (leb a.gas b.gas) (leb b.gas a.gas) (leb a.bytes b.bytes)
compared a b = refl

pub summed : (a b : Cost) → gas_bytes.◌⊞◌ a b ≡ record { gas = sat a.gas b.gas; bytes = sat a.bytes b.bytes }
summed a b = refl

pub sized : (a : Cost) → gas_bytes.size a ≡ max a.gas a.bytes
sized a = refl

pub room_is : gas_bytes.room ≡ top
room_is = refl

-- prices up to 30,000 and allowances up to 65,536 leave room
pub domain_fits : (n : ℕ) → n ≤ 65536 → 30000 * suc n ≤ gas_bytes.room
domain_fits n h = omega arith

-- the least cost is no cost
pub zero_is : gas_bytes.𝟘 ≡ none
zero_is = refl

-- the sum is the sum of costs, onto a cost of two u32 numbers
pub sum_is : (a b : Cost) → a.gas ≤ 4294967295 → a.bytes ≤ 4294967295 → gas_bytes.◌⊞◌ a b ≡ plus a b
unfolding plus
sum_is a b g h = rw (sat_is a.gas b.gas g, sat_is a.bytes b.bytes h)

-- the order is the comparison of costs
lex_is : (a b x y : ℕ) → lex (leb a b) (leb b a) (leb x y) ≡ (leb x y if eqb a b otherwise ltb a b)
unfolding lex
lex_is a b x y = by_equal (eqb a b) refl
  where
    by_less : (t : Bool) → ltb a b ≡ t → (a ≡ b → ⊥) → (leb a b && (not (leb b a) || leb x y)) ≡ t
    by_less true e n =
        let l : a < b = ltb-true a b e in
        let k : a ≤ b = omega arith in
        rw (le-leb a b k, lt-leb b a l)
    by_less false e n =
        let l : b ≤ a = ltb-false a b e in
        let k : b < a = omega arith in
        rw (lt-leb a b k)

    by_equal : (t : Bool) → eqb a b ≡ t → (leb a b && (not (leb b a) || leb x y)) ≡ (leb x y if t otherwise ltb a b)
    by_equal true e =
        let q : a ≡ b = eqb-true a b e in
        let k : a ≤ b = omega arith in
        let l : b ≤ a = omega arith in
        rw (le-leb a b k, le-leb b a l)
    by_equal false e = by_less (ltb a b) refl (eqb-false a b e)

pub le_is : (a b : Cost) → gas_bytes.le a b ≡ no_more a b
unfolding no_more
le_is a b = lex_is a.gas b.gas a.bytes b.bytes
