-- Members that are emitted one after the other.
use Rattle.std.specs.Prelude.{◌≡◌, ◌++◌, List}
use Rattle.fm_encoder.specs.Points.{Member}

-- members of one list, and then of another
abbrev pub Joined : (List Member → Type 0) → (List Member → Type 0) → List Member → Type 0
Joined First Second members = (xs : List Member) × (ys : List Member) × First xs × Second ys × (members ≡ xs ++ ys)
