-- What is found so far, and then at the rest, is what is found at all.
use Rattle.std.proofs.Common.{◌≡◌, ◌||◌, ◌++◌, map, filter, drop}
use Rattle.std.specs.List.{enumerate_from, list_any}
use Rattle.gw_text.specs.model.Attachment.{selects, selects_and_allows, takes}
use Rattle.gw_attach.proofs.attachment.visit_all.Given as goal

abbrev pub invariant-listeners : goal.invariant-listeners
invariant-listeners l = record {
  selected : (l.found.selected || list_any (selects l.parent) (drop l.place l.gateway.listeners)) ≡ list_any (selects l.parent) l.gateway.listeners;
  allowed : (l.found.allowed || list_any (selects_and_allows l.gateway l.labels l.route l.parent) (drop l.place l.gateway.listeners))
      ≡ list_any (selects_and_allows l.gateway l.labels l.route l.parent) l.gateway.listeners;
  taken : (l.found.taken || list_any (takes l.gateway l.labels l.route l.parent) (drop l.place l.gateway.listeners))
      ≡ list_any (takes l.gateway l.labels l.route l.parent) l.gateway.listeners;
  places : l.found.places ++ map (λ p. p.0) (filter (λ p. takes l.gateway l.labels l.route l.parent p.1) (enumerate_from l.place (drop l.place l.gateway.listeners)))
      ≡ map (λ p. p.0) (filter (λ p. takes l.gateway l.labels l.route l.parent p.1) (enumerate_from 0 l.gateway.listeners));
}
