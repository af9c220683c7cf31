-- What holds of the fields of an encoder of families between calls.
use Rattle.std.specs.Prelude.{◌≡◌, None}
use Rattle.fm_core.specs.inside.Offered.{IsReady}
use Rattle.fm_core.specs.declared.scrape.metric_family_encoder.MetricFamilyEncoder.TheInside.{Inside}

abbrev pub IsCollecting : Inside → Type 0
IsCollecting e = e.refused.error ≡ None → IsReady e.families e.encoder
