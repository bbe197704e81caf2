-- How the parts of a publisher belong together.
use Rattle.std.specs.Prelude.{◌≡◌, List}
use Rattle.gw_lists.specs.Lists.{BeginsWith, SoFar}
use Rattle.gw_snap.specs.declared.known.Known.{Known}
use Rattle.gw_snap.specs.Readers.{known}

-- What is shown is of the published list, which begins the pending one. The newest value tells the pending list. All are of one opening,
-- which the writer knows.
pub record IsInOrder {C F : Type 0} (tells : List C → Type 0) (writer_knows : Known F) (shown_fixed newest_fixed : F)
    (shown_list published_list pending_list newest_list : SoFar C) : Type 0 where
  pub shown : shown_list ≡ published_list
  pub knows : writer_knows ≡ known pending_list.book newest_fixed
  pub fixed : shown_fixed ≡ newest_fixed
  pub book : published_list.book ≡ pending_list.book
  pub begins : BeginsWith published_list.list pending_list.list
  pub newest : newest_list ≡ pending_list
  pub told : tells pending_list.list
