-- What is kept of a request that was served.
use Rattle.std.specs.Prelude.{ℕ, List, Option, Some, None, Result, Ok, Err}
use Rattle.gw_answers.specs.model.Decisions.{BackendKey, Chosen}
use Rattle.gw_replies.specs.declared.fault.BackendFault.{BackendFault}
use Rattle.gw_replies.specs.declared.fault.FaultName.{FaultName}
use Rattle.gw_replies.specs.declared.fault.FaultName.TheVariants.{Backend}
use Rattle.gw_replies.specs.model.Responses.{Response}
use Rattle.gw_text.specs.model.Addresses.{Socket}
use Rattle.gw_text.specs.model.Names.{Key}

-- By how many changes the request was decided, the code of its reply, what was chosen for it, and the fault where it had one.
pub record ServedRow : Type 0 where
  pub front : ℕ
  pub status : ℕ
  pub listener : Option (List ℕ)
  pub route : Option Key
  pub rule : ℕ
  pub place : ℕ
  pub backend : Option BackendKey
  pub endpoint : Option Socket
  pub fault : Option FaultName

abbrev pub served_row : ℕ → Chosen → ℕ → Option FaultName → ServedRow
served_row front chosen status fault = record {
  front = front;
  status = status;
  listener = chosen.listener;
  route = chosen.route;
  rule = chosen.rule;
  place = chosen.place;
  backend = chosen.backend;
  endpoint = chosen.endpoint;
  fault = fault;
}

-- The code of the reply for what a backend answered.
abbrev pub status_of : Result Response BackendFault → ℕ
status_of (Ok r) = r.code
status_of (Err fault) = 502

-- The fault of what a backend answered.
abbrev pub fault_of : Result Response BackendFault → Option FaultName
fault_of (Ok r) = None
fault_of (Err fault) = Some (Backend fault)
