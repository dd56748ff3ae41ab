use Rattle.go_reading.proofs.OneFolderList.{one_folder_list, own_side, std_side}
use Rattle.go_reading.proofs.laws.one_folder_list.Goals as goal

pub returns : goal.returns
returns c = record {
  one = one_folder_list;
  own = λ p barred tree std_tree folders f k h e. own_side p barred tree std_tree f (k.sound f h) e;
  std = λ p barred tree std_tree folders f bars k h e u. std_side p barred tree std_tree bars f (k.sound f h) e u;
}
