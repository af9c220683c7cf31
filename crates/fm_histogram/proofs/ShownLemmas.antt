-- What histograms emit.
use Rattle.std.proofs.Common.{◌≡◌, ℤ, Bool, [], ◌∷◌, Result, inl, inr}
use Rattle.fm_raw.specs.declared.encode_error.EncodeError.{EncodeError}
use Rattle.fm_encoder.specs.Points.{Point}
use Rattle.fm_encoder.specs.Gathered.{GatheredPoints}
use Rattle.fm_encoder.specs.Emits.{EmitsPoints}
use Rattle.fm_histogram.specs.Histogram.{Histogram, CountsTaken}

-- the point of one histogram is that of some
pub EmitsPoints-some : (point : Histogram → Point) (taken : ℤ → Bool) (s : Histogram) (old new : GatheredPoints) (r : Result (Unit {0}) EncodeError) → CountsTaken taken s → EmitsPoints (λ ps. ps ≡ point s ∷ []) ⊥ old new r
    → EmitsPoints (λ ps. (some : Histogram) × CountsTaken taken some × (ps ≡ point some ∷ [])) ⊥ old new r
EmitsPoints-some point taken s old new r counts a = record {
  same = a.same;
  kept = a.kept;
  emitted = λ o n e. (let h = a.emitted o n e in (h.0, (s, counts, h.1), h.2, h.3));
  own = a.own;
  refused = λ k o n. elim (a.refused k o n) [ inl own ↦ inl own | inr (ps, is, fault) ↦ inr (ps, (s, counts, is), fault) ];
}
