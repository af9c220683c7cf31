use Rattle.fm_reader.proofs.Exemplars.{shown_no_value, shown_no_time, shown_no_exemplar}
use Rattle.fm_reader.proofs.lines.values.read_values.Goals as goal

pub returns-in_default : goal.returns-in_default
returns-in_default c = shown_no_value c.args.kind _ c.split_token.result.0.now c.split_token.result.1 c.split_token.ensures c.in_default.ensures

pub returns-in_default-read_time : goal.returns-in_default-read_time
returns-in_default-read_time c = shown_no_time c.args.kind _ c.split_token.result.0.now c.split_token.result.1 c.split_token.ensures c.in_default-read_time.ensures

pub returns-in_default-2 : goal.returns-in_default-2
returns-in_default-2 c =
    shown_no_exemplar c.args.kind _ c.split_token.result.0.now c.split_token.result.1 c.in-Some-read_time.tail c.in-Some-read_time.time c.split_token.ensures c.in-Some-read_time.ensures (rw c.in_default-2.is at c.in_ok-exemplar.ensures)
