-- The window that a state holds, as a function.
use Rattle.std.specs.Prelude.{ℕ, zero, suc, ◌/◌, ◌%◌, ◌^◌, ◌≤◌, ◌<◌, ◌≡◌, refl, Bool, true, false, List, [], ◌∷◌, length, get_or, drop, ltb}
use Rattle.std.proofs.Common.{sym, subst, arith}
use Rattle.window.specs.declared.PackedState.{PackedState}
use Rattle.window.specs.State.{Held, whole}
use Rattle.window.specs.Decode.{decode, stop, held_decode}

-- the window that a state holds
unfoldable pub keys_of : PackedState → List ℕ
keys_of s = decode 6 21 (whole s)

-- the state is a window
abbrev pub Window : PackedState → Type 0
Window s = Held 6 s (keys_of s)

stop_length : (b : Bool) (xs : List ℕ) (n : ℕ) → length xs ≤ n → length (stop b xs) ≤ n
stop_length true xs n h = omega arith
stop_length false xs n h = h

decode_length : (w n v : ℕ) → length (decode w n v) ≤ n
decode_length w zero v = omega arith
decode_length w (suc n) v = stop_length (ltb v 2) (v % 2 ^ w ∷ decode w n (v / 2 ^ w)) (suc n) (omega (arith, decode_length w n (v / 2 ^ w)))

pub keys_length : (s : PackedState) → length (keys_of s) ≤ 21
unfolding keys_of
keys_length s = decode_length 6 21 (whole s)

pub held_keys : (s : PackedState) (xs : List ℕ) → Held 6 s xs → length xs ≤ 21 → keys_of s ≡ xs
unfolding keys_of
held_keys s xs h l = held_decode 6 21 (omega arith) s xs h l

-- a state that holds a window of at most 21 keys is one
pub held_window : (s : PackedState) (xs : List ℕ) → Held 6 s xs → length xs ≤ 21 → Window s
held_window s xs h l = subst (Held 6 s) (sym (held_keys s xs h l)) h

-- a list with a key is its first key and the rest
first_and_rest : (xs : List ℕ) → 0 < length xs → xs ≡ get_or xs 0 0 ∷ drop 1 xs
first_and_rest [] l = absurd (omega arith)
first_and_rest (k ∷ xs) l = refl

-- a window with a key, as Pop asks for it
pub held_first : (s : PackedState) (xs : List ℕ) → Held 6 s xs → 0 < length xs → Held 6 s (get_or xs 0 0 ∷ drop 1 xs)
held_first s xs h l = subst (Held 6 s) (first_and_rest xs l) h
