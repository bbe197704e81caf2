-- The parts of what is sent, in the order of their keys.
use Rattle.std.proofs.Common.{◌≡◌, ℕ, suc, List, [], ◌∷◌, Option, Some, None, codes, refl, ap, subst, length}
use Rattle.serde.specs.Event.{Log}
use Rattle.serde_json.specs.Data.{Data, Members, member, no_members, number, unsigned, string}
use Rattle.serde_json.specs.Events.{items_len}
use Rattle.serde_json.specs.View.{items_of}
use Rattle.gw_text.specs.model.Forms.{printed}
use Rattle.gw_text.specs.model.Kinds.{gateway_group}
use Rattle.gw_text.specs.model.Statuses.{ParentStatus}
use Rattle.gw_status.specs.Sending.{given_first, SendsPart}
use Rattle.gw_status.specs.StatusText.{parent_key_members, parent_ref_members}

abbrev pub in_order : ParentStatus → Option (List ℕ) → Option ℕ → Members
in_order s section port =
    member (codes "group") (string gateway_group)
    (member (codes "kind") (string (codes "Gateway"))
    (member (codes "name") (string (printed s.name))
    (member (codes "namespace") (string (printed s.namespace))
    (given_first (codes "port") (λ port. number (unsigned port)) port
    (given_first (codes "sectionName") (λ name. string (printed name)) section no_members)))))

ordered : (s : ParentStatus) (section : Option (List ℕ)) (port : Option ℕ) → section ≡ s.section → port ≡ s.port → in_order s section port ≡ parent_ref_members s
unfolding parent_ref_members parent_key_members
ordered s None None section port = rw (← section, ← port) refl
ordered s None (Some p) section port = rw (← section, ← port) refl
ordered s (Some n) None section port = rw (← section, ← port) refl
ordered s (Some n) (Some p) section port = rw (← section, ← port) refl

-- the members of a parentRef come in the order of their keys
pub parent_ref_in_order : (s : ParentStatus) → in_order s s.section s.port ≡ parent_ref_members s
parent_ref_in_order s = ordered s s.section s.port refl refl

-- a list is as long as its items
pub items_len-items_of : (ds : List Data) → items_len (items_of ds) ≡ length ds
items_len-items_of [] = refl
items_len-items_of (d ∷ ds) = ap suc (items_len-items_of ds)

-- a member with the text under another name
pub same_text : (key t u : List ℕ) (old new : Log) → t ≡ u → SendsPart (member key (string (printed t))) old new → SendsPart (member key (string (printed u))) old new
same_text key t u old new same = subst (λ x. SendsPart (member key (string (printed x))) old new) same
