-- The parts of a target.
use Rattle.http_uri.specs.Uri.{uri_scheme, uri_authority, uri_data}
use Rattle.http_uri.specs.declared.uri.Uri.{Uri}
use Rattle.gw_frames.specs.model.Heads.{Target}

abbrev pub target_of : Uri → Target
target_of u = record { scheme = uri_scheme u; authority = uri_authority u; path_and_query = uri_data u }
