-- How the end of a body is told.
use Rattle.std.specs.Prelude.{ℕ, ◌≡◌, List}
use Rattle.gw_text.specs.model.Fields.{Field}
use Rattle.gw_messages.specs.model.Bodies.{limited_body}
use Rattle.gw_replies.specs.model.Responses.{by_chunks, by_number, by_end, extent_of}
use Rattle.gw_replies.specs.declared.extent.Extent.{Extent}
use Rattle.gw_replies.specs.declared.extent.Extent.TheVariants as extents

-- The extent that fields give. A size that is above the limit may stand for another one.
abbrev pub IsExtent : List Field → Extent → Type 0
IsExtent fields extents.Chunks = extent_of fields ≡ by_chunks
IsExtent fields (extents.Size size) =
    (number : ℕ) × (extent_of fields ≡ by_number number)
    × ((bytes : List ℕ) → limited_body 8388608 size bytes ≡ limited_body 8388608 number bytes)
IsExtent fields extents.End = extent_of fields ≡ by_end
