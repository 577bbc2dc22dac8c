-- The desk's kinds and price list: document 01, "The exam desk program".
use Rattle.std.specs.Prelude.{ℕ, zero, suc, ◌-◌, ◌/◌, ◌%◌, false, List, [], ◌∷◌, ◌++◌, ◌≡◌, refl, eqb, ltb}
use Rattle.costs.specs.Choice.{◌if◌otherwise◌}
use Rattle.costs.specs.Table.{kinds_fault, prices_fault}
use Rattle.costs.specs.declared.Cost.{Cost}

-- the values of a function at 0, 1 and so on, so many of them
unfoldable pub table : (ℕ → ℕ) → ℕ → List ℕ
table f zero = []
table f (suc n) = table f n ++ (f n ∷ [])

-- a key's kind: 0 to 31 are values, 32 is the immediate zero, the others are immediates ("Its price list")
unfoldable pub desk_kind : ℕ → ℕ
desk_kind k = 0 if ltb k 32 otherwise 2 if eqb k 32 otherwise 1

-- the price of pushing or loading a key of a kind ("Its price list")
unfoldable pub key_price : ℕ → Cost
key_price kind =
    record { gas = 6; bytes = 3 } if eqb kind 0 otherwise
    record { gas = 2; bytes = 1 } if eqb kind 2 otherwise
    record { gas = 3; bytes = 2 }

-- the pair at a place of the price list ("Its price list"; the places: "A question comes in")
unfoldable pub desk_pair : ℕ → Cost
desk_pair p =
    record { gas = 2; bytes = 1 } if eqb p 0 otherwise
    record { gas = 3; bytes = 1 } if ltb p 34 otherwise
    key_price (desk_kind (p - 34))

-- the number at a place of the price list ("A question comes in")
unfoldable pub desk_price : ℕ → ℕ
desk_price i = (desk_pair (i / 2)).gas if eqb (i % 2) 0 otherwise (desk_pair (i / 2)).bytes

-- the desk's 64 kind bytes
unfoldable pub desk_kinds : List ℕ
desk_kinds = table desk_kind 64

-- the desk's price list of 196 numbers
unfoldable pub desk_prices : List ℕ
desk_prices = table desk_price 196

-- the desk's tables are never refused as 4
pub desk_kinds_lem : kinds_fault desk_kinds ≡ false
unfolding kinds_fault desk_kinds table desk_kind
desk_kinds_lem = refl

pub desk_prices_lem : prices_fault desk_prices ≡ false
unfolding prices_fault desk_prices table desk_price desk_pair key_price desk_kind
desk_prices_lem = refl
