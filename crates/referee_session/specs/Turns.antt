-- What the private contracts of the turns of a referee cite; `IsLegal` alone has to be believed.
use Rattle.std.specs.Prelude.{◌≡◌, ◌⊎◌, ◌≤◌, [], None, length}
use Rattle.std.specs.Io.KnownBytes.{append_known}
use Rattle.adversary_graph.specs.Pools.{IsPool, IsRoot}
use Rattle.referee_session.specs.Due.{AreAnswers, met_by, said_in}
use Rattle.referee_session.specs.Refereed.{HasAnswers, Sitting}
use Rattle.referee_session.specs.Session.{SessionState}

-- what each session keeps: a pool of legal nodes, a root, and answers of which each was asked for
pub record IsLegal (state : SessionState) : Type 0 where
  pub of_pool : IsPool state.pool
  pub of_root : IsRoot state.pool.nodes state.root
  pub answers : AreAnswers state.pool state.root state.answers
  pub few : length state.answers ≤ 960

-- so far all that is said to the answers was written
pub record GoesOn (s : Sitting) : Type 0 where
  pub has : HasAnswers s
  pub met : met_by s.new_reader.ending ≡ met_by s.reader.ending
  pub unmet : (s.answers ≡ []) ⊎ (met_by s.reader.ending ≡ None)
  pub written : s.new_written ≡ append_known s.written (said_in s.pool s.root s.answers)
