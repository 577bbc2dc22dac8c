-- What the results of the inner functions stand for.
use Rattle.std.specs.Prelude.{ℕ, Result, Ok, Err, reverse}
use Rattle.costs.specs.Refusal.{number_of}
use Rattle.costs.specs.declared.Refusal.{Refusal}
use Rattle.window.specs.Keys.{keys_of}
use Rattle.rewind.specs.Walk.{Place, place}
use Rattle.rewind.specs.declared.back.Back.{Back}
use Rattle.rewind.specs.declared.Rewound.{Rewound}

-- the place on the walk
abbrev pub back_of : Back → Place
back_of b = place (keys_of b.state) (reverse b.left.now)

-- the start's length, or the number of a refusal
abbrev pub rewound_of : Result ℕ Refusal → Rewound
rewound_of (Ok n) = record { refusal = 0; length = n }
rewound_of (Err r) = record { refusal = number_of r; length = 0 }
