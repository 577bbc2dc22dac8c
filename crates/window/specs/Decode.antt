-- The window that a number packs, as a function.
use Rattle.std.specs.Prelude.{◌≡◌, refl, Bool, true, false, List, [], ◌∷◌, ℕ, zero, suc, ◌+◌, ◌*◌, ◌/◌, ◌%◌, ◌^◌, ◌≤◌, ◌<◌, ltb, length}
use Rattle.std.proofs.Common.{ap, ap₂, ◌∙◌, mul-le-mul, not-suc-le-zero, le_of_suc-le-suc, arith, le-ltb}
use Rattle.window.specs.declared.PackedState.{PackedState}
use Rattle.window.specs.Pack.{Keys, pack}
use Rattle.window.specs.Laws.{two_le, pack_pos, head_of, tail_of}
use Rattle.window.specs.State.{Held, whole}

abbrev pub stop : Bool → List ℕ → List ℕ
stop true xs = []
stop false xs = xs

-- at most n keys of w bits, up to the marker
abbrev pub decode : ℕ → ℕ → ℕ → List ℕ
decode w zero v = []
decode w (suc n) v = stop (ltb v 2) (v % 2 ^ w ∷ decode w n (v / 2 ^ w))

pub decode_pack : (w : ℕ) → 0 < w → (n : ℕ) (xs : List ℕ) → Keys w xs → length xs ≤ n → decode w n (pack w xs) ≡ xs
decode_pack w p zero [] h l = refl
decode_pack w p zero (x ∷ xs) h l = absurd (not-suc-le-zero l)
decode_pack w p (suc n) [] h l = refl
decode_pack w p (suc n) (x ∷ xs) h l =
    let v : ℕ = x + 2 ^ w * pack w xs in
    let big : 2 ≤ v = omega (arith, mul-le-mul (two_le w p) (pack_pos w xs)) in
    ap (λ (t : Bool). stop t (v % 2 ^ w ∷ decode w n (v / 2 ^ w))) (le-ltb v 2 big)
    ∙ ap₂ (λ (a b : ℕ). a ∷ decode w n b) (head_of w x (pack w xs) h.0) (tail_of w x (pack w xs) h.0)
    ∙ ap (λ (r : List ℕ). x ∷ r) (decode_pack w p n xs h.1 (le_of_suc-le-suc l))

-- a held window is what the state decodes to, so a state holds one window
pub held_decode : (w n : ℕ) → 0 < w → (s : PackedState) (xs : List ℕ) → Held w s xs → length xs ≤ n → decode w n (whole s) ≡ xs
held_decode w n p s xs h l = ap (decode w n) h.value ∙ decode_pack w p n xs h.keys l
