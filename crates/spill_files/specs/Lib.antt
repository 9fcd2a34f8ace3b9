pub mod FolderStore
