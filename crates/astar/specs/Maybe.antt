-- What follows where there is a value.
use Rattle.std.specs.Prelude.{◌≡◌, Option, Some, None}

-- what a function makes of the value, and none where there is none
abbrev pub bind : {A B : Type 0} → Option A → (A → Option B) → Option B
bind None f = None
bind (Some a) f = f a

pub some_injective : {A : Type 0} (a b : A) → Some a ≡ Some b → a ≡ b
some_injective a b e = cc
