-- A list of answers, as docs/vectors-format.md describes it: all numbers are little endian, and what lies past an end reads as 0.
use Rattle.std.specs.Prelude.{◌≡◌, ℕ, zero, suc, ◌+◌, ◌*◌, ◌%◌, ◌<◌, ◌≤◌, Bool, List, [], ◌∷◌, length, take, drop, ◌==◌, nat_eq, nat_lt, slice_index, slice_index_or}
use Rattle.vectors.specs.declared.file.Tag.{Tag}
use Rattle.vectors.specs.declared.file.Tag.TheVariants.{Start, Goal, Limits, Tables, Passed, Lent, Ceiling, Asked, Answer, Plan, Window, Popped, Places, Beneath}
use Rattle.costs.specs.Choice.{◌if◌otherwise◌}

-- The number of a field's tag.
abbrev pub tag_of : Tag → ℕ
tag_of Start = 1
tag_of Goal = 2
tag_of Limits = 3
tag_of Tables = 4
tag_of Passed = 5
tag_of Lent = 6
tag_of Ceiling = 7
tag_of Asked = 8
tag_of Answer = 9
tag_of Plan = 10
tag_of Window = 11
tag_of Popped = 12
tag_of Places = 13
tag_of Beneath = 14

-- The number of four bytes at a place.
abbrev pub number_at : List ℕ → ℕ → ℕ
number_at s at = slice_index s at + 256 * slice_index s (at + 1) + 65536 * slice_index s (at + 2) + 16777216 * slice_index s (at + 3)

-- The number of two bytes at a place.
abbrev pub short_at : List ℕ → ℕ → ℕ
short_at s at = slice_index s at + 256 * slice_index s (at + 1)

-- The bytes of a field's entries: so many entries of so many bytes.
abbrev pub entries_size : List ℕ → ℕ → ℕ
entries_size rec at = slice_index rec (at + 1) * short_at rec (at + 2)

-- Where the field with a tag begins, of n fields from a place on; behind them all if there is none.
unfoldable pub place_of : ℕ → List ℕ → ℕ → ℕ → ℕ
place_of zero rec tag at = at
place_of (suc n) rec tag at = at if nat_eq (slice_index rec at) tag otherwise place_of n rec tag (at + (4 + entries_size rec at))

-- The bytes of the entries at the field's place.
abbrev pub entries_at : List ℕ → ℕ → List ℕ
entries_at rec at = take (entries_size rec at) (drop (at + 4) rec)

-- The entries of the field with a tag, none if the record lacks it. A record's fields begin behind its first 8 bytes.
abbrev pub field_of : List ℕ → ℕ → List ℕ
field_of rec tag = entries_at rec (place_of (short_at rec 6) rec tag 8)

-- Whether the record has the field with a tag, be it empty.
abbrev pub has_field : List ℕ → ℕ → Bool
has_field rec tag = slice_index rec (place_of (short_at rec 6) rec tag 8) == tag

-- The bytes of an entry of the field with a tag, 0 for a tag that is not known.
abbrev pub width_of : ℕ → ℕ
width_of tag = slice_index (0 ∷ 1 ∷ 1 ∷ 4 ∷ 2 ∷ 2 ∷ 4 ∷ 4 ∷ 2 ∷ 4 ∷ 2 ∷ 1 ∷ 1 ∷ 4 ∷ 4 ∷ []) tag

-- The field at a place is known and stands behind the tag before it.
pub record FieldKnown (rec : List ℕ) (at last : ℕ) : Type 0 where
  pub behind : last < slice_index rec at
  pub known : 0 < width_of (slice_index rec at)
  pub wide : slice_index_or rec (at + 1) 0 ≡ width_of (slice_index rec at)

-- n fields from a place on are known, by rising tag, and end with the record.
unfoldable pub Known : ℕ → List ℕ → ℕ → ℕ → Type 0
Known zero rec at last = at ≡ length rec
Known (suc n) rec at last = FieldKnown rec at last × Known n rec (at + (4 + entries_size rec at)) (slice_index rec at)

-- All fields of a record are known.
abbrev pub AllKnown : List ℕ → Type 0
AllKnown rec = Known (short_at rec 6) rec 8 0

-- Step code i of a field of codes.
abbrev pub code_at : List ℕ → ℕ → ℕ
code_at codes i = short_at codes (2 * i)

-- Price i of the price list that a record names.
abbrev pub price_at : List ℕ → List ℕ → ℕ → ℕ
price_at bytes rec i = number_at (take 784 (drop (short_at bytes 8 + 784 * short_at (field_of rec 4) 0) bytes)) (4 * i)

-- How many entries of a table are passed: by the field of counts, or all where the record lacks it.
abbrev pub passed_at : List ℕ → ℕ → ℕ → ℕ
passed_at counts at all = all if nat_lt (length counts) 4 otherwise short_at counts at

-- How many places are lent for popped keys: by the field of places, or one for each step where the record lacks it.
abbrev pub places_of : List ℕ → ℕ → ℕ
places_of lent steps = steps if nat_lt (length lent) 4 otherwise number_at lent 0

-- What a step list holds before a call: no step has such a code.
abbrev pub pattern_at : ℕ → ℕ
pattern_at i = 40000 + i % 20000

-- What a result list holds before a call: no key is as great.
abbrev pub no_key : ℕ → ℕ
no_key i = 201

-- A list of n items, each as its place wants it.
pub record Filled {A : Type 0} (Fits : ℕ → A → Type 0) (n : ℕ) (xs : List A) : Type 0 where
  pub long : length xs ≡ n
  pub each : (k : ℕ) (none : A) → k < n → Fits k (slice_index_or xs k none)

-- Every number of the field of answers is answered: the refusal, then the call's fields.
abbrev pub AsFields : List ℕ → List ℕ → Type 0
AsFields answers got = (k : ℕ) → 4 * k < length answers → slice_index got k ≡ number_at answers (4 * k)

-- What a step list must hold: the field's n codes, and the pattern behind them.
abbrev pub wanted_step : List ℕ → ℕ → ℕ → ℕ
wanted_step codes n i = code_at codes i if nat_lt i n otherwise pattern_at i

-- The step list holds the n codes, and the rest is untouched.
pub record AsSteps (codes : List ℕ) (n : ℕ) (steps : List ℕ) : Type 0 where
  pub room : n ≤ length steps
  pub each : (k : ℕ) → k < length steps → slice_index steps k ≡ wanted_step codes n k

-- What a list of keys must hold: the keys of a field, and what stood there before behind them.
abbrev pub wanted_key : List ℕ → ℕ → ℕ
wanted_key keys i = slice_index_or keys i 0 if nat_lt i (length keys) otherwise no_key i

-- The list holds the keys, and the rest is untouched.
pub record AsKeys (keys list : List ℕ) : Type 0 where
  pub room : length keys ≤ length list
  pub each : (k : ℕ) → k < length list → slice_index list k ≡ wanted_key keys k

-- While the records are read: the place is in the file, there are few enough records to count, and no more of them differ than are read.
pub record Reading (size n at records wrong : ℕ) : Type 0 where
  pub place : at ≤ size
  pub many : n < 4294967296
  pub differ : wrong ≤ records

-- A list has so many first entries, and they are so many. The second part follows from the first, and spares a caller's `&xs[..n]` a proof.
abbrev pub IsPrefixLen : {A : Type 0} → ℕ → List A → Type 0
IsPrefixLen n xs = (n ≤ length xs) × (n ≡ length (take n xs))
