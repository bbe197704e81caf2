-- What a change that was prepared makes of a core.
use Rattle.std.proofs.Common.{◌≡◌, ◌∙◌, ℤ, sym, ap, subst}
use Rattle.gw_deps.specs.Indexes.{Index, IsIndexOf, Patch}
use Rattle.gw_match.specs.model.Telling.{Tables}
use Rattle.gw_store.specs.Stores.{Store}
use Rattle.gw_text.specs.model.Statuses.{Statuses, statuses_of}
use Rattle.gw_text.specs.model.World.{World, apply}
use Rattle.gw_kept.specs.Held.{Held}
use Rattle.gw_resolve.specs.Cores.{Core, IsCore, IsPrepared, Preparation, held_of, tables_at}

module _ (p : Preparation) (c : Core) (kept : Held) (statuses : Statuses) (tables : Tables) (patch : Patch) (store : Store) (index : Index) where
  -- what was prepared on a core is kept and evaluated of the objects after the change
  pub done : p.core ≡ c → IsPrepared p kept statuses tables patch → store.world ≡ apply c.store.world p.change
      → ((at : ℤ) → IsIndexOf (apply patch.world (record { event = patch.event; at = at })) index)
      → IsCore kept statuses tables (record { store = store; doors = c.doors; controller = c.controller; index = index })
  done is prepared worlds indexed =
      let then : apply c.store.world p.change ≡ store.world = sym worlds in
      let patched : apply patch.world (record { event = patch.event; at = p.change.at }) ≡ store.world =
      ap (λ (q : Patch). apply q.world (record { event = q.event; at = p.change.at })) prepared.patch_is ∙ ap (λ (d : Core). apply d.store.world p.change) is ∙ then in
      record {
        kept_are = prepared.kept_are ∙ ap (λ (d : Core). held_of d.doors d.controller (apply d.store.world p.change)) is ∙ ap (held_of c.doors c.controller) then;
        evaluated = record {
          statuses_are = prepared.evaluated.statuses_are ∙ ap (λ (d : Core). statuses_of d.doors d.controller (apply d.store.world p.change)) is ∙ ap (statuses_of c.doors c.controller) then;
          tables_are = prepared.evaluated.tables_are ∙ ap (λ (d : Core). tables_at d.doors d.controller (apply d.store.world p.change)) is ∙ ap (tables_at c.doors c.controller) then;
        };
        index_is = subst (λ (w : World). IsIndexOf w index) patched (indexed p.change.at);
      }
