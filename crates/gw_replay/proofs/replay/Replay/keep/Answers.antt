-- A connection more, by its name.
use Rattle.std.proofs.Common.{◌≡◌, ℕ, List, Some, subst, string_bytes, bytes_eq}
use Rattle.std.proofs.lemmas.Map.Text.{btree_map_updates_text}
use Rattle.std.specs.BTreeMap.{get_by_text}
use Rattle.std.specs.Map.{update}
use Rattle.gw_replay.proofs.replay.Replay.keep.Goals as goal

pub returns-clause-kept : goal.returns-clause-kept
returns-clause-kept g c = λ n.
    subst (λ (bytes : List ℕ). get_by_text c.insert.new.self n ≡ update bytes_eq (get_by_text c.args.self.now.clients) bytes (Some c.args.client) n) c.in_ok-name.ensures.ok
    (btree_map_updates_text (string_bytes c.in_ok-name.name) c.args.self.now.clients c.insert.new.self (Some c.args.client) c.in_ok-insert.ensures.updates n)
