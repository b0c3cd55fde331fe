-- What a transcript tells.
use Rattle.online_play.specs.declared.transcript.Transcript.{Transcript}
use Rattle.adversary_graph.specs.Play.{Play}

-- the play that a transcript tells
abbrev pub play_of : Transcript → Play
play_of transcript = record {
  items = transcript.items;
  bins = transcript.bins;
  loads = transcript.loads;
  packing = transcript.packing;
}
