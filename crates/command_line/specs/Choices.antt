-- The options that the words of a call choose.
use Rattle.std.specs.Prelude.{Bool, None, Option, Some, bytes_eq, codes, false, if◌then◌else◌, true}
use Rattle.theory_definitions.specs.Drafts.{Draft, draft_2019_09, draft_2020_12, draft_4, draft_6, draft_7}
use Rattle.theory_definitions.specs.Instance.{Text}
use Rattle.command_line.specs.declared.options.Output.{Output}
use Rattle.command_line.specs.declared.options.Output.TheVariants as output
use Rattle.command_line.specs.declared.styles.Color.{Color}
use Rattle.command_line.specs.declared.styles.Color.TheVariants as color
use Rattle.command_line.specs.declared.styles.Paint.{Paint}
use Rattle.command_line.specs.declared.styles.Paint.TheVariants as paint

-- the word that chooses an output
abbrev pub name_of : Output → Text
name_of output.Text = codes "text"
name_of output.Flag = codes "flag"
name_of output.List = codes "list"
name_of output.Basic = codes "basic"
name_of output.Hierarchical = codes "hierarchical"

-- the output that a word chooses
abbrev pub output_named : Text → Option Output
output_named name =
    if bytes_eq name (codes "text") then Some output.Text
    else if bytes_eq name (codes "flag") then Some output.Flag
    else if bytes_eq name (codes "list") then Some output.List
    else if bytes_eq name (codes "basic") then Some output.Basic
    else if bytes_eq name (codes "hierarchical") then Some output.Hierarchical
    else None

-- the draft that a word chooses: its number, or its year and month
abbrev pub draft_named : Text → Option Draft
draft_named name =
    if bytes_eq name (codes "4") then Some draft_4
    else if bytes_eq name (codes "6") then Some draft_6
    else if bytes_eq name (codes "7") then Some draft_7
    else if bytes_eq name (codes "2019-09") then Some draft_2019_09
    else if bytes_eq name (codes "2020-12") then Some draft_2020_12
    else None

-- the choice of colors that a word names
abbrev pub color_named : Text → Option Color
color_named name =
    if bytes_eq name (codes "auto") then Some color.Auto
    else if bytes_eq name (codes "always") then Some color.Always
    else if bytes_eq name (codes "never") then Some color.Never
    else None

-- how verdicts are painted by a choice, on an output that shows colors or not
abbrev pub paint_by : Color → Bool → Paint
paint_by color.Auto shows = if shows then paint.Coloured else paint.Plain
paint_by color.Always shows = paint.Coloured
paint_by color.Never shows = paint.Plain
