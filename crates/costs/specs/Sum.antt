-- Sums of prices of the steps that a list's entries stand for.
use Rattle.std.specs.Prelude.{ℕ, List, [], ◌∷◌, ◌≡◌, refl, Option}
use Rattle.std.specs.List.{fold}
use Rattle.costs.specs.declared.Cost.{Cost}
use Rattle.costs.specs.declared.Step.{Step}
use Rattle.costs.specs.Cost.{plus}
use Rattle.costs.specs.Step.{decoded}
use Rattle.costs.specs.Price.{price_of, cost_from}

-- what a call returns for an entry is what f gives
abbrev pub Gives : {A : Type 0} → (A → Option Step → Type 0) → (A → Option Step) → Type 0
Gives {A = A} returns f = (x : A) (r : Option Step) → returns x r → r ≡ f x

-- a sum with the price of an entry's step more
abbrev pub add_price : {A : Type 0} → List ℕ → (A → Option Step) → Cost → A → Cost
add_price prices f sum x = plus sum (price_of prices (f x))

-- the cost of the steps is the sum over their codes
pub fold_codes : (prices : List ℕ) (sum : Cost) (cs : List ℕ) → fold (add_price prices decoded) sum cs ≡ cost_from prices sum cs
fold_codes prices sum [] = refl
fold_codes prices sum (c ∷ cs) = fold_codes prices (plus sum (price_of prices (decoded c))) cs
