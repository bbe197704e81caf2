-- How a fault of a backendRef stands for its state.
use Rattle.gw_text.specs.model.References.{BackendState, invalid_kind, not_permitted, not_found, bad_protocol}
use Rattle.gw_backend.specs.declared.port.Fault.{Fault}
use Rattle.gw_backend.specs.declared.port.Fault.TheVariants.{InvalidKind, NotPermitted, NotFound, BadProtocol}

-- The state of a backendRef that has the fault.
abbrev pub seen_fault : Fault → BackendState
seen_fault InvalidKind = invalid_kind
seen_fault NotPermitted = not_permitted
seen_fault NotFound = not_found
seen_fault BadProtocol = bad_protocol
