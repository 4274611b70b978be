-- The whole promise holds.
use Rattle.laws.specs.Space.{Seen, Sound}
use Rattle.laws.specs.Calls.{run}
use Rattle.laws.specs.Promise.{Holds, Whole}
use Rattle.laws.proofs.Meeting.{meet-shared, meeting_decides}
use Rattle.laws.proofs.Posting.{posting_fills, either_order}
use Rattle.laws.proofs.History.{keeps}

-- of any sound grid
pub holds : (X : Type 0) (s : Seen) → Sound s → Holds X s
holds X s h = record {
  said = λ es us a b. meeting_decides es us s.lens a b;
  meets = λ es us a b. meet-shared s es us h a b;
  fills = λ es a v xs l. posting_fills s h es a v xs l;
  commutes = λ es us a b apart v w xs. either_order s h es us a b (λ c. apart ((meet-shared s es us h a b).1 c)) v w xs;
}

pub whole : (X : Type 0) → Whole X
whole X fresh h cs =
    let k = keeps fresh h cs in
    (k.0, k.1, holds X (run fresh cs) k.0)
