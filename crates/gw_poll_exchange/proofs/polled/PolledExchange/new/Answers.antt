use Rattle.std.proofs.Common.{refl}
use Rattle.gw_poll_exchange.proofs.Reading.{reads_nothing}
use Rattle.gw_poll_exchange.proofs.polled.PolledExchange.new.Goals as goal

pub returns-clause-stands : goal.returns-clause-stands
returns-clause-stands c = record { reads = reads_nothing c.new.result c.args.head c.new.ensures.stands c.new.ensures.open; unsent = refl; met_is = refl }
