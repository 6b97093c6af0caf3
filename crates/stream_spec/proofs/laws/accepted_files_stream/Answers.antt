-- A file that is accepted for decoding is a stream of its frames, along the chunks that opening and the walk find.
use Rattle.stream_spec.proofs.Accepted.{accepted_file_streams}
use Rattle.stream_spec.proofs.laws.accepted_files_stream.Goals as goal

pub returns : goal.returns
returns c = accepted_file_streams
