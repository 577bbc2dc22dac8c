-- Laws of what the reader goes through place by place.
use Rattle.std.specs.Prelude.{◌≡◌, ℕ, suc, ◌+◌, List, length, ◌≢◌, slice_index, refl}
use Rattle.std.proofs.Common.{eq-eqb, ne_eqb}
use Rattle.vectors.specs.File.{place_of, entries_size, FieldKnown, Known}

-- All fields are known where the next is and those behind it are,
pub known_more :
    (n : ℕ) (rec : List ℕ) (at last : ℕ) →
    FieldKnown rec at last →
    Known n rec (at + (4 + entries_size rec at)) (slice_index rec at) →
    Known (suc n) rec at last
unfolding Known
known_more n rec at last h k = (h, k)

-- and where none is left and the record ends.
pub known_all : (rec : List ℕ) (at last : ℕ) → at ≡ length rec → Known 0 rec at last
unfolding Known
known_all rec at last e = e

-- The search for a tag ends at a field that has it,
pub place_here :
    (n : ℕ) (rec : List ℕ) (tag at : ℕ) →
    slice_index rec at ≡ tag →
    place_of (suc n) rec tag at ≡ at
unfolding place_of
place_here n rec tag at e = rw (eq-eqb _ _ e)

-- and goes on behind any other.
pub place_on :
    (n : ℕ) (rec : List ℕ) (tag at : ℕ) →
    (slice_index rec at ≢ tag) →
    place_of (suc n) rec tag at ≡ place_of n rec tag (at + (4 + entries_size rec at))
unfolding place_of
place_on n rec tag at h = rw (ne_eqb _ _ h)

-- Behind all fields it stays where it is.
pub place_none : (rec : List ℕ) (tag at : ℕ) → place_of 0 rec tag at ≡ at
unfolding place_of
place_none rec tag at = refl
