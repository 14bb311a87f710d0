-- The texts of the names of what operations change and use.
use Rattle.std.specs.Prelude.{◌++◌, codes}
use Rattle.file_words.specs.Lines.{Bytes}
use Rattle.file_model.specs.declared.files.File.{File}
use Rattle.report_words.specs.Words.{node_text, element_text, node_and_node, node_and_element, node_and_code}
use Rattle.wsm_foot.specs.declared.names.Name.{Name}
use Rattle.wsm_foot.specs.declared.names.Name.TheVariants as name

abbrev pub name_text : File → Name → Bytes
name_text f (name.Node n) = codes "node " ++ node_text f n
name_text f (name.GapAfter n) = codes "gap-after " ++ node_text f n
name_text f (name.GapHead split code) = codes "gap-head " ++ node_and_code f split code
name_text f (name.Sync source target) = codes "sync " ++ node_and_node f source target
name_text f (name.Read n element) = codes "read " ++ node_and_element f n element
name_text f (name.Write n element) = codes "write " ++ node_and_element f n element
name_text f (name.Element element) = codes "element " ++ element_text f element
name_text f (name.Role n) = codes "role " ++ node_text f n
