-- The order of work of the program.
use Rattle.std.specs.Prelude.{ℕ, List, [], if◌then◌else◌, length, Option, Some, None}
use Rattle.kmn_base.specs.declared.limits.TheConstants.{TEXT_BYTES}
use Rattle.rule_model.specs.Tab.{tab}
use Rattle.rule_model.specs.declared.script.Entry.{Entry}
use Rattle.rule_model.specs.declared.tables.Tables.{Tables}
use Rattle.keyman_words.specs.LayoutNames.{is_layout}
use Rattle.keyman_words.specs.declared.status.Status.TheVariants as status
use Rattle.keyman_run.specs.Endings.{Ending}
use Rattle.keyman_run.specs.Inputs.{tables_of_file}
use Rattle.keyman_run.specs.Orders.{bytes_work, script_work}
use Rattle.keyman_run.specs.Work.{Work, given, and_then}
use Rattle.keyman_run.specs.Work.Work.{Give, Read}
use Rattle.touch_board.specs.declared.layers.TouchLayer.{TouchLayer}
use Rattle.chart_run.specs.Drawings.{drawing, drawn_line, title_of}
use Rattle.chart_run.specs.Layouts.{layers_of}

-- read the script if there is one; without a script there are no entries
abbrev pub entries_work : (dictionary : List (List ℕ)) → (keys : Option (List ℕ)) → Work (List Entry)
entries_work dictionary None = Give []
entries_work dictionary (Some keys) = script_work dictionary keys

-- read a touch layout, and check it for the keyboard of tables
abbrev pub layout_work : Tables → (layout : List ℕ) → Work (List TouchLayer)
layout_work tables layout = Read layout TEXT_BYTES (λ reading. given (layers_of tables reading))

-- read the touch layout if there is one; without a layout there are no layers
abbrev pub layers_work : Tables → (layout : Option (List ℕ)) → Work (List TouchLayer)
layers_work tables None = Give []
layers_work tables (Some layout) = layout_work tables layout

-- read the touch layout, and draw the keyboard of tables after the entries of a script
abbrev pub entries_drawing_work : (title : List ℕ) → Tables → (layout : Option (List ℕ)) → List Entry → Work (List ℕ)
entries_drawing_work title tables layout entries = and_then (layers_work tables layout) (λ layers. given (drawing title layers tables entries))

-- read the script and the touch layout, and draw the keyboard of tables
abbrev pub tables_drawing_work : (title : List ℕ) → (keys layout : Option (List ℕ)) → Tables → Work (List ℕ)
tables_drawing_work title keys layout tables = and_then (entries_work (tab tables).dictionary keys) (entries_drawing_work title tables layout)

-- check that bytes are a valid file, and draw its keyboard
abbrev pub bytes_drawing_work : (title : List ℕ) → (keys layout : Option (List ℕ)) → (bytes : List ℕ) → Work (List ℕ)
bytes_drawing_work title keys layout bytes = and_then (given (tables_of_file bytes)) (tables_drawing_work title keys layout)

-- read the file, and draw its keyboard
abbrev pub drawing_work : (file : List ℕ) → (keys layout : Option (List ℕ)) → Work (List ℕ)
drawing_work file keys layout = and_then (bytes_work file) (bytes_drawing_work (title_of file keys) keys layout)

-- the drawing is written, and its size is printed
abbrev pub chart_ending : (picture text : List ℕ) → Ending
chart_ending picture text = record { status = status.Done; file = Some (picture, text); printed = drawn_line (length text) }

-- `FILE SVG [KEYS] [LAYOUT]`: read the file, read the script and the layout if there are any, write the drawing, print its size
abbrev pub chart_work : (file picture : List ℕ) → (keys layout : Option (List ℕ)) → Work Ending
chart_work file picture keys layout = and_then (drawing_work file keys layout) (λ text. Give (chart_ending picture text))

-- the same for one name after those of the file and the picture: it is the name of a layout by its end, else that of a script
unfoldable pub last_work : (file picture last : List ℕ) → Work Ending
last_work file picture last = if is_layout last then chart_work file picture None (Some last) else chart_work file picture (Some last) None
