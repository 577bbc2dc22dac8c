-- A list with the first places written over.
use Rattle.std.specs.Prelude.{ℕ, ◌+◌, ◌-◌, ◌<◌, ◌≤◌, List, ◌∷◌, ◌++◌, ◌≡◌, refl, length, get_or, set, take, drop}
use Rattle.std.proofs.Common.{ap, sym, subst, ◌∙◌, zero-add, add-one, arith, length-set, length-drop, length-append, take_at, drop-cons}
use Rattle.std.proofs.Math.Seq.{paste, paste-zero, paste-suc, take-length}
use Rattle.window.specs.declared.PackedState.{PackedState}
use Rattle.window.specs.State.{Held}
use Rattle.window.specs.Keys.{keys_of}

pub over_turn : (d s : List ℕ) (i : ℕ) → i < length d → i < length s → set (paste d 0 s i) i (get_or s i 0) ≡ paste d 0 s (i + 1)
over_turn d s i h k =
    ap (λ (j : ℕ). set (paste d 0 s i) j (get_or s i 0)) (sym (zero-add i))
    ∙ paste-suc d 0 s i 0 (omega arith) k
    ∙ ap (paste d 0 s) (sym (add-one i))

pub over_whole : (d s : List ℕ) → paste d 0 s (length s) ≡ s ++ drop (length s) d
over_whole d s = rw (zero-add (length s), take-length s)

-- the keys of a state over the first places of d: what stands there
pub written_length : (s : PackedState) (d new : List ℕ) (n : ℕ) → n ≡ length (keys_of s) → new ≡ keys_of s ++ drop (length (keys_of s)) d → n ≤ length new
written_length s d new n e f = omega (arith, e, ap length f, length-append (keys_of s) (drop (length (keys_of s)) d))

pub written_front : (s : PackedState) (d new : List ℕ) (n : ℕ) → n ≡ length (keys_of s) → new ≡ keys_of s ++ drop (length (keys_of s)) d → take n new ≡ keys_of s
written_front s d new n e f = ap (take n) f ∙ take_at (keys_of s) (drop (length (keys_of s)) d) n (sym e)

pub written_take : (s : PackedState) (d new : List ℕ) (n : ℕ) → n ≡ length (keys_of s) → new ≡ keys_of s ++ drop (length (keys_of s)) d → take (n - 0) new ≡ keys_of s
written_take s d new n e f = written_front s d new (n - 0) (omega (arith, e)) f

-- the first i keys of xs are written over old, which has places for all, and s holds the others
pub record Writing (xs old out : List ℕ) (s : PackedState) (i : ℕ) : Type 0 where
  pub low : i ≤ length xs
  pub room : length xs ≤ length old
  pub len : length out ≡ length old
  pub text : out ≡ paste old 0 xs i
  pub left : Held 6 s (drop i xs)

pub writing_first : (xs old : List ℕ) (s : PackedState) → length xs ≤ length old → Held 6 s xs → Writing xs old old s 0
writing_first xs old s l h = record { low = omega arith; room = l; len = refl; text = paste-zero old 0 xs; left = h }

module _ (xs old out : List ℕ) (s : PackedState) (i : ℕ) (v : Writing xs old out s i) where
  pub some_left : i < length xs → 0 < length (drop i xs)
  some_left l = omega (arith, length-drop i xs)

  turned : i < length xs → drop i xs ≡ get_or xs i 0 ∷ drop (i + 1) xs
  turned l = drop-cons xs i 0 (omega arith) ∙ ap (λ (j : ℕ). get_or xs i 0 ∷ drop j xs) (sym (add-one i))

  pub some_held : i < length xs → Held 6 s (get_or xs i 0 ∷ drop (i + 1) xs)
  some_held l = subst (Held 6 s) (turned l) v.left

  pub writing_next : (k : ℕ) (t : PackedState) → i < length xs → k ≡ get_or (drop i xs) 0 0 → Held 6 t (drop (i + 1) xs) → Writing xs old (set out i k) t (i + 1)
  writing_next k t l f h =
      let g : k ≡ get_or xs i 0 = f ∙ ap (λ (w : List ℕ). get_or w 0 0) (turned l) in
      record {
        low = omega arith;
        room = v.room;
        len = length-set out i k ∙ v.len;
        text = rw (v.text, g) (over_turn old xs i (omega (arith, v.room)) l);
        left = h;
      }

  pub writing_last : i ≡ length xs → out ≡ xs ++ drop (length xs) old
  writing_last z = v.text ∙ ap (paste old 0 xs) z ∙ over_whole old xs
