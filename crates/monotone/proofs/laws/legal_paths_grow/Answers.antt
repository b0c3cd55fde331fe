use Rattle.monotone.proofs.PathLemmas.{IsLegalFrom-push, IsLegalFrom-parts, position_after-push}
use Rattle.monotone.proofs.laws.legal_paths_grow.Goals as goal

pub returns : goal.returns
returns c = record {
  legal = λ game allowed start path step. (IsLegalFrom-parts game allowed start path step, λ h. IsLegalFrom-push game allowed start path step h.0 h.1);
  position = position_after-push;
}
