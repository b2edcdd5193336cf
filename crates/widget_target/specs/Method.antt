-- The methods of a widget's messages ('Jupyter widgets messaging protocol' 2.1.0, "State update messages" and "Custom
-- messages").
use Rattle.std.specs.Prelude.{ℕ, Bool, true, false, List, Option, Some, Result, Ok, Err, codes, if◌then◌else◌}
use Rattle.std.specs.Str.{bytes_eq}
use Rattle.comm_value.specs.Tree.{Tree, text}
use Rattle.comm_targets.specs.declared.fault.TargetFault.{TargetFault}
use Rattle.comm_targets.specs.declared.fault.TargetFault.TheVariants.{NoMethod, UnknownMethod}
use Rattle.comm_targets.specs.declared.kind.Kind.{Kind}
use Rattle.comm_targets.specs.declared.kind.Kind.TheVariants as kind
use Rattle.widget_target.specs.declared.method.Method.{Method}
use Rattle.widget_target.specs.declared.method.Method.TheVariants.{Update, RequestState, Custom}

abbrev pub method_named : List ℕ → Result Method TargetFault
method_named name =
    if bytes_eq name (codes "update") then Ok Update
    else if bytes_eq name (codes "request_state") then Ok RequestState
    else if bytes_eq name (codes "custom") then Ok Custom
    else Err UnknownMethod

-- of the data's `method`
abbrev pub method_of : Option Tree → Result Method TargetFault
method_of (Some (text name)) = method_named name
method_of _ = Err NoMethod

-- the kind of a target that echoes, or of one that doesn't
abbrev pub kind_of : Bool → Kind
kind_of true = kind.WidgetEcho
kind_of false = kind.Widget
