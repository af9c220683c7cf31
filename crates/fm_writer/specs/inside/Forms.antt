-- What contracts see of a sink's two forms.
use Rattle.std.specs.Prelude.{Some, None, true, false}
use Rattle.fm_writer.specs.Output.{SinkState, OutputSamples, OutputText}
use Rattle.fm_writer.specs.declared.sink.Form.{Form}
use Rattle.fm_writer.specs.declared.sink.Form.TheVariants.{Samples, Text}

abbrev pub sink_state : Form → SinkState
sink_state (Samples store true) = record { shared = Some store.common; output = OutputSamples store.samples }
sink_state (Samples store false) = record { shared = None; output = OutputSamples store.samples }
sink_state (Text text) = record { shared = None; output = OutputText text }
